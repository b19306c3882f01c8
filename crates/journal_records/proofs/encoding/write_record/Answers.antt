use Rattle.std.proofs.Common.{◌≡◌, ◌++◌, ◌∙◌, ap, sym, subst, List, ℕ}
use Rattle.std.specs.Prelude.{OnOk}
use Rattle.journal_records.specs.Records.{bytes_in, body_of}
use Rattle.journal_records.specs.Views.{lent_state, origin_of, page_of, page_body, recorded_of}
use Rattle.journal_records.specs.declared.records.Recorded.{Recorded}
use Rattle.journal_records.proofs.Exact.{page_told}
use Rattle.journal_records.proofs.encoding.write_record.Goals as goal

pub returns-in-Page : goal.returns-in-Page
returns-in-Page c =
    let p = c.in-Page.page.now in
    let state = bytes_in (lent_state c.in-Page.state) in
    let told : body_of (recorded_of c.args.record.now) ≡ page_body p state =
    ap (λ (r : Recorded). body_of (recorded_of r)) c.in-Page.is ∙ page_told (origin_of p.origin) (page_of p state) in
    subst (λ (body : List ℕ). OnOk c.write_page.result (c.write_page.new.writer ≡ c.args.writer.now ++ body)) (sym told) c.write_page.ensures
