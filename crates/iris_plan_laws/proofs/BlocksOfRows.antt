-- What makes or moves rows keeps all blocks.
use Rattle.std.proofs.Common.{◌≡◌, ℕ, List, [], ◌∷◌, Bool, true, false, Option, Some, None, refl, sym, ◌∙◌, subst}
use Rattle.iris_name.specs.declared.request.PlainError.{PlainError}
use Rattle.iris_name.specs.declared.request.Request.{Request}
use Rattle.iris_name.specs.declared.request.Request.TheVariants.{Mkdir, Create, Write, Read, Resize, Stat, List as ListNames, Rename, Remove, Sync, Root, Reclaim, Probe}
use Rattle.iris_name.specs.Paths.{names_of}
use Rattle.iris_plain.specs.Checks.{is_full, on_names, no_place, move_checks}
use Rattle.iris_plain.specs.Routes.{parent, last, is_top, is_front}
use Rattle.iris_rows.specs.Changes.{seen_in, made, stepped, table_verdict, row_moved}
use Rattle.iris_rows.specs.Rows.{Table, Here, empty_file}
use Rattle.iris_records.specs.Shown.{shown}
use Rattle.iris_rows.specs.Sound.{IsSound}
use Rattle.iris_rows.proofs.SoundStep.{sound_kept}
use Rattle.iris_plan_laws.specs.Blocks.{SameBlocks, IsOfRows, RowsKeepBlocks}
use Rattle.iris_plan_laws.specs.Makes.{making}
use Rattle.iris_plan_laws.specs.Moves.{in_hand, left_below}
use Rattle.iris_plan_laws.proofs.AcceptedRequests.{IsFree, refused_step, has_names, made_kind, made_free, made_step, accepted_move, moved_step}
use Rattle.iris_plan_laws.proofs.MovedRow.{halves_of_move}
use Rattle.iris_plan_laws.proofs.NewRow.{made_blocks}
use Rattle.iris_plan_laws.proofs.RowTakenAndPut.{taken_blocks, put_blocks}

module _ (order : List ℕ) (t : Table) (s : IsSound t) where
  abbrev Keeps : Request → Type 0
  Keeps request = SameBlocks (shown order t) (shown order (stepped t request))

  make_keeps : (dir : Bool) (path : List ℕ) (names : List (List ℕ)) → table_verdict t (making dir path) ≡ None → names_of path ≡ Some names → Keeps (making dir path)
  make_keeps dir path names e n =
      let f = made_free t dir path names e n in
      subst (λ u. SameBlocks (shown order t) (shown order u)) (sym (made_step t dir path names e n)) (by dir f) where
        by : (dir : Bool) → IsFree t names → SameBlocks (shown order t) (shown order (made (made_kind dir) names t))
        by true f = made_blocks order t None tt names f.id f.rows s f.leads
        by false f = made_blocks order t (Some empty_file) refl names f.id f.rows s f.leads

  move_keeps : (from to : List ℕ) (olds news : List (List ℕ)) → table_verdict t (Rename from to) ≡ None → names_of from ≡ Some olds → names_of to ≡ Some news → Keeps (Rename from to)
  move_keeps from to [] news e a b = absurd (let m = (accepted_move t from to [] news e a b).some in cc)
  move_keeps from to (n ∷ ns) news e a b =
      let m = accepted_move t from to (n ∷ ns) news e a b in
      let step = moved_step t from to (n ∷ ns) news m.row e a b m.here in
      let h = halves_of_move t n ns news m s (subst IsSound step (sound_kept t (Rename from to) s)) in
      let mid = in_hand (n ∷ ns) m.row t in
      let u = row_moved (n ∷ ns) news t (Here m.row) in
      subst (λ w. SameBlocks (shown order t) (shown order w)) (sym step)
      (λ file p. put_blocks order mid u (parent news) (last (n ∷ ns)) (last news) h.into (left_below (parent news) (n ∷ ns) h.others) m.row h.puts file p
      ∙ taken_blocks order t mid (parent (n ∷ ns)) (last (n ∷ ns)) h.out h.rows m.row h.takes file p)

  accepted_keeps : (request : Request) → IsOfRows request → table_verdict t request ≡ None → Keeps request
  accepted_keeps (Mkdir path) o e = let n = has_names (names_of path) (no_place (seen_in t) (is_full t.age)) e in make_keeps true path n.0 e n.1
  accepted_keeps (Create path) o e = let n = has_names (names_of path) (no_place (seen_in t) (is_full t.age)) e in make_keeps false path n.0 e n.1
  accepted_keeps (Rename from to) o e = by (names_of from) refl (names_of to) refl e where
    by : (x : Option (List (List ℕ))) → names_of from ≡ x → (y : Option (List (List ℕ))) → names_of to ≡ y
        → on_names x (λ olds. on_names y (λ news. move_checks (is_top olds) (seen_in t olds) (is_front olds news) (no_place (seen_in t) (is_full t.age) news))) ≡ None → Keeps (Rename from to)
    by None a y b q = absurd (cc)
    by (Some olds) a None b q = absurd (cc)
    by (Some olds) a (Some news) b q = move_keeps from to olds news e a b
  accepted_keeps (Write path offset bytes) o e = absurd o
  accepted_keeps (Read path offset count) o e = absurd o
  accepted_keeps (Resize path size) o e = absurd o
  accepted_keeps (Stat path) o e = absurd o
  accepted_keeps (ListNames path after) o e = absurd o
  accepted_keeps (Remove path) o e = absurd o
  accepted_keeps Sync o e = absurd o
  accepted_keeps Root o e = absurd o
  accepted_keeps Reclaim o e = absurd o
  accepted_keeps (Probe at) o e = absurd o

  request_keeps : (request : Request) → IsOfRows request → Keeps request
  request_keeps request o = by (table_verdict t request) refl where
    by : (v : Option PlainError) → table_verdict t request ≡ v → Keeps request
    by None e = accepted_keeps request o e
    by (Some x) e = subst (λ u. SameBlocks (shown order t) (shown order u)) (sym (refused_step t request x e)) (λ file p. refl)

pub rows_keep_blocks : RowsKeepBlocks
rows_keep_blocks order t request s o = request_keeps order t s request o
