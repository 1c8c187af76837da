use Rattle.std.proofs.Common.{ap, sym, ◌∙◌, cond, Option, true≢false, is_some}
use Rattle.iris_links.specs.declared.linked.Linked.{Linked}
use Rattle.iris_links.specs.Links.{same_id, LinkIndex, linked_at, linked_count, linked_sum, count_in, sum_in}
use Rattle.iris_links.proofs.Counted.{count-cond, sum-cond}
use Rattle.iris_links.proofs.links.Links.put.Goals as goal

pub returns-in-Ok-clause-counts : goal.returns-in-Ok-clause-counts
returns-in-Ok-clause-counts c = λ _ q.
    let v : Linked = record { count = c.args.count; sum = c.args.sum } in
    ap count_in (c.in-Ok.ensures.updates.0 q) ∙ count-cond (same_id c.args.child q) v _
    ∙ ap (λ (l : LinkIndex). cond (same_id c.args.child q) c.args.count (linked_count l q)) c.self.view_is

pub returns-in-Ok-clause-sums : goal.returns-in-Ok-clause-sums
returns-in-Ok-clause-sums c = λ _ q.
    let v : Linked = record { count = c.args.count; sum = c.args.sum } in
    ap sum_in (c.in-Ok.ensures.updates.0 q) ∙ sum-cond (same_id c.args.child q) v _
    ∙ ap (λ (l : LinkIndex). cond (same_id c.args.child q) c.args.sum (linked_sum l q)) c.self.view_is

pub returns-in-Err-clause-whole : goal.returns-in-Err-clause-whole
returns-in-Err-clause-whole c = λ there.
    absurd (true≢false (sym there ∙ ap (λ (l : LinkIndex). is_some (linked_at l c.args.child)) (sym c.self.view_is) ∙ ap (λ (o : Option Linked). is_some o) c.in-Err.ensures.absent))
