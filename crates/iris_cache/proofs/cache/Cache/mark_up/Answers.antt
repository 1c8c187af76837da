use Rattle.std.proofs.Common.{◌≡◌, ◌<◌, ◌-◌, ◌+◌, Some, length, ap, sym, ◌∙◌, arith, ℕ}
use Rattle.iris_cache.proofs.Rising.{above-none, marks_step, parent-marked}
use Rattle.iris_cache.specs.Held.{moved_node}
use Rattle.iris_cache.specs.Drafted.{Drafted, drafted}
use Rattle.iris_cache.specs.Applied.{is_above_within}
use Rattle.iris_cache.specs.Pictures.{parent_after}
use Rattle.iris_cache.specs.Resident.{Resident, held_node, map_if}
use Rattle.iris_name.specs.Names.{same_name}
use Rattle.iris_cache.proofs.cache.Cache.mark_up.Goals as goal

pub loop-step-preserved : goal.loop-step-preserved
loop-step-preserved c =
    let D : Drafted = record { changes = c.args.changes.now.entries } in
    let U = parent_after D c.args.self.now in
    let n : ℕ = c.len.result + c.len-2.result + 1 in
    let i = c.loop-step.step in
    let L = c.loop-step.self in
    let here = c.in-Some.here in
    let lt : i < n = omega arith in
    record {
      left = λ q.
          ap (λ a. map_if (is_above_within U (n - (i + 1)) a q) moved_node (held_node c.flag.new.self q)) (c.parent_after-at.ensures ∙ c.loop-step.invariant.parents here)
          ∙ marks_step U n i here q (held_node L) (held_node c.flag.new.self) lt c.flag.ensures.nodes
          ∙ ap (λ a. map_if (is_above_within U (n - i) a q) moved_node (held_node L q)) (sym c.in-Some.is)
          ∙ c.loop-step.invariant.left q;
      parents = λ q. parent-marked (drafted D q) (same_name here q) (held_node L q) (held_node c.flag.new.self q) (c.flag.ensures.nodes q) ∙ c.loop-step.invariant.parents q;
      count = c.flag.ensures.count ∙ c.loop-step.invariant.count;
      room = c.flag.ensures.room ∙ c.loop-step.invariant.room;
    }

pub returns-in_default-clause-nodes : goal.returns-in_default-clause-nodes
returns-in_default-clause-nodes c = λ q.
    let D : Drafted = record { changes = c.args.changes.now.entries } in
    let U = parent_after D c.args.self.now in
    let n : ℕ = c.len.result + c.len-2.result + 1 in
    let k = n - c.loop-step.step in
    let L = c.loop-step.self in
    let l : c.len.result ≡ length c.args.self.now.nodes = c.len.ensures.len ∙ ap (λ (r : Resident). length r.nodes) c.self.view_is in
    let m : c.len-2.result ≡ length c.args.changes.now.entries = c.len-2.ensures.len in
    let most : n ≡ length c.args.self.now.nodes + length c.args.changes.now.entries + 1 = omega (arith, l, m) in
    sym (ap (λ a. map_if (is_above_within U k a q) moved_node (held_node L q)) c.in_default.is ∙ ap (λ b. map_if b moved_node (held_node L q)) (above-none U k q))
    ∙ c.loop-step.invariant.left q
    ∙ ap (λ f. map_if (is_above_within U f (Some c.args.name.now) q) moved_node (held_node c.args.self.now q)) most
