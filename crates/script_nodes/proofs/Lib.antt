pub mod Scripts
pub mod Trees
pub mod Places
pub mod Below
pub use Rattle.prim_spec.proofs as PrimSpec
