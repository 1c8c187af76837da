use Rattle.std.proofs.Common.{◌≡◌, arith, sym, subst, List, ℕ, Bool, MatchOption, Bor, Option}
use Rattle.std.proofs.lemmas.List.{take_all}
use Rattle.iris_plain.specs.Pages.{NoneLater, IsNext}
use Rattle.iris_plain.specs.Steps.{has_entry_named}
use Rattle.iris_plain.specs.Entries.{kind_at}
use Rattle.iris_plain.specs.declared.files.Entry.{Entry}
use Rattle.iris_plain.proofs.EntryLaws.{names_skip, names_push}
use Rattle.iris_plain.proofs.files.next_name.Goals as goal
use Rattle.iris_plain.proofs.files.next_name.Goals.{in-Some, in_default}

best_by : (x y : List ℕ → Bool) (after : List ℕ) (a b : Option (Bor (List ℕ))) → x ≡ y → a ≡ b
    → MatchOption b (NoneLater y after) (λ b. IsNext y after b.now) → MatchOption a (NoneLater x after) (λ b. IsNext x after b.now)
best_by x y after a b e f h =
    let P : Option (Bor (List ℕ)) → Type 0 = λ o. MatchOption o (NoneLater x after) (λ b. IsNext x after b.now) in
    let Q : (List ℕ → Bool) → Type 0 = λ t. MatchOption b (NoneLater t after) (λ b. IsNext t after b.now) in
    subst P (sym f) (subst Q (sym e) h)

pub loop-entry-preserved : goal.loop-entry-preserved
loop-entry-preserved c = elim c.match-child_name.branch [
  | in-Some w ↦ best_by _ _ c.args.after.now _ _
      (names_push c.args.entries.now c.loop-entry.entry-index c.entry-item.result c.args.names.now _ c.entry-item.is (omega arith) w.in-Some.ensures) w.best-is (w.lesser-best.ensures _ c.loop-entry.invariant)
  | in_default w ↦ best_by _ _ c.args.after.now _ _
      (names_skip c.args.entries.now c.loop-entry.entry-index c.entry-item.result c.args.names.now c.entry-item.is (omega arith) w.in_default.ensures) w.best-is c.loop-entry.invariant
]

pub returns : goal.returns
returns c =
    let P : List Entry → Type 0 = λ es. MatchOption c.loop-entry.best (NoneLater (has_entry_named (kind_at es) c.args.names.now) c.args.after.now) (λ b. IsNext (has_entry_named (kind_at es) c.args.names.now) c.args.after.now b.now) in
    subst P (take_all c.loop-entry.entry-index c.args.entries.now (omega arith)) c.loop-entry.invariant
