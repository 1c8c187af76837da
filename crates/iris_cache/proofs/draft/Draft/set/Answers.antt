use Rattle.std.proofs.Common.{ap, sym, ◌∙◌, arith, is_some, length}
use Rattle.iris_node.specs.Nodes.{name_of}
use Rattle.iris_cache.specs.Drafted.{Drafted, set_to}
use Rattle.iris_cache.proofs.Drafts.{set-own, some-injective, grown}
use Rattle.iris_cache.proofs.draft.Draft.set.Goals as goal

pub invariant_of-self-2 : goal.invariant_of-self-2
invariant_of-self-2 c =
    let D : Drafted = record { changes = c.self.inside.changes.entries } in
    let E : Drafted = record { changes = c.insert.new.self.entries } in
    let l = c.in_ok-insert.ensures.len in
    let f = c.if-len.false in
    let m = c.len.ensures.len in
    record {
      once = c.in_ok-insert.ensures.unique;
      few = grown (is_some c.in_ok-insert.field-0) (length E.changes) (length D.changes) l (omega (arith, f, m));
      own = set-own D E (set_to c.args.parent c.args.node) c.name-name.result c.self.invariant.own c.in_ok-insert.ensures.updates.0
          (λ k h. ap name_of (sym (some-injective c.args.node k h)) ∙ sym c.name-name.ensures);
    }
