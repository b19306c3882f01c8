pub mod Likes
pub use Rattle.send_suspend.specs as SendSuspend
