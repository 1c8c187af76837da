use Rattle.std.proofs.Common.{◌≡◌, ◌++◌, ◌+◌, take, drop, arith, sym, ◌∙◌, ap, length, replicate, ◌-◌, ℕ, Vec, Global}
use Rattle.iris_plain.specs.Files.{wrote}
use Rattle.iris_plain.proofs.ByteLaws.{wrote_inside, wrote_past, whole}
use Rattle.iris_plain.proofs.bytes.write_over.Goals as goal
use Rattle.iris_plain.proofs.bytes.write_over.Goals.{then-len-end+in_ok-resize, else-len-end}

pub returns-clause-ok : goal.returns-clause-ok
returns-clause-ok c =
    let size : length c.copy_at.new.held ≡ c.if-len-end.held.len = c.copy_at.auto.held ∙ c.as_mut_slice.ensures.len in
    let all : length c.if-len-end.held.items ≡ c.if-len-end.held.len = ap length (sym c.as_mut_slice.ensures.value) ∙ c.as_mut_slice.ensures.len in
    whole c.if-len-end.held.len c.copy_at.new.held c.if-len-end.held.items size all
    ∙ c.copy_at.ensures ∙ ap (λ z. take c.args.at z ++ (c.args.piece.now ++ drop (c.args.at + length c.args.piece.now) z)) c.as_mut_slice.ensures.value
    ∙ elim c.if-len-end.branch [
      | then-len-end+in_ok-resize w ↦ wrote_past c.args.at c.args.piece.now c.args.held.now.items c.if-len-end.held.items (omega (arith, c.args.held.now.ok.0, w.if-len-end.true)) (ap (λ (v : Vec ℕ Global). v.items) w.held-is ∙ w.in_ok-resize.ensures.items ∙ ap (λ n. take (c.args.at + length c.args.piece.now) c.args.held.now.items ++ replicate (c.args.at + length c.args.piece.now - n) 0) c.args.held.now.ok.0)
      | else-len-end w ↦ wrote_inside c.args.at c.args.piece.now c.if-len-end.held.items (omega (arith, w.if-len-end.false, c.args.held.now.ok.0, ap (λ (v : Vec ℕ Global). length v.items) w.held-is)) ∙ ap (λ (v : Vec ℕ Global). wrote c.args.at c.args.piece.now v.items) w.held-is
    ]
