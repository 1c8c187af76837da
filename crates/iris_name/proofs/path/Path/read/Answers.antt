use Rattle.std.proofs.Common.{◌≡◌, Some, None, IfOk, IfErr, map, sym, ◌∙◌, ap, subst, lit<, arith, Option, List, ℕ, Bor, ◌==◌}
use Rattle.std.specs.List.{slice_split}
use Rattle.std.proofs.lemmas.Iterator.Consumers.{map_from_collect}
use Rattle.std.proofs.lemmas.Iterator.Splits.{YieldsList-from_str_split}
use Rattle.iris_name.specs.Paths.{names_of, slashed_names}
use Rattle.iris_name.proofs.Pieces.{names_of-long, names_of-root, names_of-deep}
use Rattle.iris_name.specs.declared.path.PathError.TheVariants.{BadPath}
use Rattle.iris_name.proofs.path.Path.read.Goals as goal

pub returns-then-text-gt-PATH_LEN-clause-bad : goal.returns-then-text-gt-PATH_LEN-clause-bad
returns-then-text-gt-PATH_LEN-clause-bad c = λ e. ap names_of (sym c.as_str-text.ensures) ∙ names_of-long c.as_str-text.result.now (omega (arith, c.if-text-gt-PATH_LEN.true))

pub returns-then-eq-clause-path : goal.returns-then-eq-clause-path
returns-then-eq-clause-path c = ap names_of (sym c.as_str-text.ensures)
    ∙ names_of-root c.as_str-text.result.now (omega arith) (sym c.eq.ensures ∙ c.if-eq.true) ∙ ap Some (sym c.new.ensures.items)

-- the names of the text are those of its pieces
read : (c : goal.After-drop-pieces) → names_of c.args.text.now ≡ slashed_names (map (λ (piece : Bor (List ℕ)). piece.now) c.as_slice.result.now)
read c =
    let cut = map_from_collect c.collect.result c.collect.ensures.ran
    (YieldsList-from_str_split 47 c.as_str-text.result.now (lit< tt) c.split.ensures.text c.split.ensures.has_more c.split.ensures.pattern) in
    let pieces : map (λ (piece : Bor (List ℕ)). piece.now) c.in_ok-pieces.pieces.items ≡ slice_split (λ b. b == 47) c.as_str-text.result.now = rw c.in_ok-pieces.was at cut in
    ap names_of (sym c.as_str-text.ensures)
    ∙ names_of-deep c.as_str-text.result.now _ (omega arith) (sym c.eq.ensures ∙ c.if-eq.false)
    (ap (map (λ piece. piece.now)) c.as_slice.ensures.value ∙ pieces)

pub returns-clause-path : goal.returns-clause-path
returns-clause-path c = let P : Option (List (List ℕ)) → Type 0 = λ o. IfOk c.slashed.result (λ path. o ≡ Some path) in subst P (sym (read c)) c.slashed.ensures.path

pub returns-clause-bad : goal.returns-clause-bad
returns-clause-bad c = let P : Option (List (List ℕ)) → Type 0 = λ o. IfErr c.slashed.result (λ error. error ≡ BadPath → o ≡ None) in subst P (sym (read c)) c.slashed.ensures.bad
