use Rattle.std.proofs.Common.{rules, ◌≡◌, ◌↔◌, ℕ, IsTrue, length, take, List, sym, ap, ◌∙◌}
use Rattle.iris_desk.specs.declared.out.Record.{Record}
use Rattle.iris_desk.specs.declared.out.Record.TheVariants as record_is
use Rattle.iris_jobs.specs.Chores.{PutState, record_by}
use Rattle.iris_jobs.proofs.Alike.{same_record}
use Rattle.iris_jobs.proofs.chore.Sealed.has_record.Goals as goal

pub returns-in-Some-Page : goal.returns-in-Some-Page
returns-in-Some-Page c =
    let v = ap (λ (p : PutState). p.record_) (sym c.self.view_is) in
    let w : record_by c.self.inside.version c.self.inside.bytes ≡ record_is.Page c.in-Some-Page.version (take 4096 c.self.inside.bytes) = ap (λ o. record_by o c.self.inside.bytes) c.in-Some-Page.is-0 in
    let b : record_is.Page c.in-Some-Page.version (take 4096 c.self.inside.bytes) ≡ record_is.Page c.in-Some-Page.version (take 4096 c.as_slice.result.now) = ap (λ bs. record_is.Page c.in-Some-Page.version (take 4096 bs)) (sym c.as_slice.ensures) in
    let t : c.args.record_.now ≡ record_is.Page c.in-Some-Page.kept c.in-Some-Page.page = c.in-Some-Page.is-1 in
    same_record c.is_same_page.result c.args.self.now.record_ c.args.record_.now (record_is.Page c.in-Some-Page.version (take 4096 c.as_slice.result.now)) (record_is.Page c.in-Some-Page.kept c.in-Some-Page.page) (v ∙ (w ∙ b)) t c.is_same_page.ensures
