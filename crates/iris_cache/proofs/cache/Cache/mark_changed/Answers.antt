use Rattle.std.proofs.Common.{refl, sym, ◌∙◌, arith, false, true≢false}
use Rattle.iris_cache.specs.Drafted.{Drafted}
use Rattle.iris_cache.proofs.Rising.{step-marks, end-marks}
use Rattle.iris_cache.proofs.cache.Cache.mark_changed.Goals as goal

pub loop-i-init : goal.loop-i-init
loop-i-init c = record {
  marks = λ q. record { marked = false; is = refl; from = λ h. absurd (true≢false (sym h)); all = λ n a f u. absurd (true≢false (sym a)) };
  room = refl;
  count = refl;
}

pub loop-i-preserved : goal.loop-i-preserved
loop-i-preserved c =
    let D : Drafted = record { changes = c.args.changes.now.entries } in
    let inv = c.loop-i.invariant in
    record {
      marks = step-marks D c.args.self.now c.loop-i.self c.mark_where.new.self c.loop-i.i c.in-Some.name.now c.in-Some.change.now c.requires (sym c.in-Some.ensures.entry) inv.marks inv.count c.mark_where.ensures.nodes;
      room = c.mark_where.ensures.room ∙ inv.room;
      count = c.mark_where.ensures.count ∙ inv.count;
    }

pub returns-clause-nodes : goal.returns-clause-nodes
returns-clause-nodes c = λ q.
    let D : Drafted = record { changes = c.args.changes.now.entries } in
    let end = c.loop-i-test.false in
    let l = c.len-i-end.ensures.len in
    end-marks D c.args.self.now c.loop-i.self c.loop-i.i (omega (arith, end, l)) q (c.loop-i.invariant.marks q)
