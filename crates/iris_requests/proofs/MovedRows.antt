-- A move is planned as the table makes it.
use Rattle.std.proofs.Common.{◌≡◌, ◌≢◌, ◌<◌, ◌+◌, ◌^◌, ◌∙◌, ℕ, List, [], ◌∷◌, length, Bool, false, Option, Some, None, refl, sym, ap, inl, inr, arith}
use Rattle.iris_blocks.specs.Paged.{Paged}
use Rattle.iris_cache.specs.declared.held.Short.{Short}
use Rattle.iris_cache.specs.declared.held.Short.TheVariants.{Need, NoMemory}
use Rattle.iris_cache.specs.Drafted.{Drafted}
use Rattle.iris_cache.specs.Resident.{Resident}
use Rattle.iris_forest.specs.Places.{rows_of}
use Rattle.iris_forest.proofs.BlockCounts.{held_counts}
use Rattle.iris_forest.proofs.NodesAreFormed.{formed, rooted}
use Rattle.iris_forest.proofs.PathsInTable.{leads_at, child_leads}
use Rattle.iris_forest.proofs.RowsInHand.{held_trees}
use Rattle.iris_forest.proofs.RowsOfDirectory.{have_rows, held_rows, held_of}
use Rattle.iris_mac.specs.declared.keys.Keys.{Keys}
use Rattle.iris_name.specs.declared.name.FileId.{FileId}
use Rattle.iris_name.specs.declared.name.Name.{Name}
use Rattle.iris_name.specs.declared.request.PlainError.{PlainError}
use Rattle.iris_name.specs.declared.request.PlainError.TheVariants.{BadPath, Full, IntoSelf}
use Rattle.iris_name.specs.declared.request.Reply.TheVariants.{Plain}
use Rattle.iris_name.specs.declared.request.Request.TheVariants.{Rename}
use Rattle.iris_name.specs.Paths.{names_of}
use Rattle.iris_node.specs.Trees.{Shown}
use Rattle.iris_node.specs.Unfolded.{id_of}
use Rattle.iris_paths.specs.declared.resolving.Found.TheVariants.{At}
use Rattle.iris_paths.specs.Moving.{IsMoved, IsMovable, IsMoveShort}
use Rattle.iris_paths.specs.Pictured.{Pictured}
use Rattle.iris_paths.specs.Resolving.{Resolves}
use Rattle.iris_plain.specs.Checks.{error_if, then_error, on_names, unresolved, is_full, move_checks, no_place}
use Rattle.iris_plain.specs.declared.checks.Seen.{Seen}
use Rattle.iris_plain.specs.Routes.{parent, last, is_top, is_front}
use Rattle.iris_plain.specs.Steps.{OnNames}
use Rattle.iris_plan_laws.specs.Moves.{in_hand, left_below, SaysMoved}
use Rattle.iris_plan_laws.specs.Takes.{TakesOut, tree_row}
use Rattle.iris_plan_laws.proofs.AcceptedRequests.{IsMove, accepted_move, moved_step, in_directory_of}
use Rattle.iris_plan_laws.proofs.MovedRow.{hands_are_held, moves_go_through}
use Rattle.iris_plan_laws.proofs.RowsLeft.{names_lead_on}
use Rattle.iris_plan_laws.proofs.RowTakenAndPut.{folder_of, takes_are_rows}
use Rattle.iris_records.specs.Shown.{shown}
use Rattle.iris_requests.specs.declared.planned.Counters.{Counters}
use Rattle.iris_requests.specs.declared.planned.Planned.{Planned}
use Rattle.iris_requests.specs.Needed.{IsNeeded, IsPlanShort, ReachesIn}
use Rattle.iris_requests.specs.Outcomes.{checked_plan}
use Rattle.iris_requests.specs.Planned.{IsShownBy, PlansFor}
use Rattle.iris_requests.proofs.Answered.{answers_error, unchanged_plan}
use Rattle.iris_requests.proofs.NeededNames.{node_needed}
use Rattle.iris_requests.proofs.NewRows.{below, place_last}
use Rattle.iris_requests.proofs.Replies.{bad_path, spelled_checks, on_spelled}
use Rattle.iris_requests.proofs.RowsPlanned.{rows_answer}
use Rattle.iris_requests.proofs.ShownTables.{no_changes, pictured_alone, paths_pictured}
use Rattle.iris_rows.specs.Changes.{table_verdict, seen_in}
use Rattle.iris_rows.specs.Rows.{Table, Taken, Here, met, root_row}
use Rattle.iris_rows.specs.Sound.{IsSound}
use Rattle.iris_treepaths.specs.Rows.{Row, HasRows}

-- ---- its checks

abbrev checks_of : Table → Bool → List (List ℕ) → List (List ℕ) → Option PlainError
checks_of t full olds news = move_checks (is_top olds) (seen_in t olds) (is_front olds news) (no_place (seen_in t) full news)

move_verdict : (t : Table) (from to : List ℕ) (olds news : List (List ℕ)) → names_of from ≡ Some olds → names_of to ≡ Some news → table_verdict t (Rename from to) ≡ checks_of t (is_full t.age) olds news
move_verdict t from to olds news e f =
    spelled_checks (names_of from) olds (λ olds. on_names (names_of to) (λ news. checks_of t (is_full t.age) olds news)) e ∙ spelled_checks (names_of to) news (λ news. checks_of t (is_full t.age) olds news) f

-- the age is checked last
move_last : (met : List (List ℕ) → Seen) (full : Bool) (olds news : List (List ℕ))
    → move_checks (is_top olds) (met olds) (is_front olds news) (no_place met full news) ≡ then_error (move_checks (is_top olds) (met olds) (is_front olds news) (no_place met false news)) (error_if full Full)
move_last met full olds news =
    ap (λ o. move_checks (is_top olds) (met olds) (is_front olds news) o) (place_last met full news)
    ∙ deeper (error_if (is_top olds) BadPath) (unresolved (met olds)) (error_if (is_front olds news) IntoSelf) (no_place met false news) (error_if full Full)
  where
    deeper : (a b c d w : Option PlainError) → then_error a (then_error b (then_error c (then_error d w))) ≡ then_error (then_error a (then_error b (then_error c d))) w
    deeper (Some e) b c d w = refl
    deeper None (Some e) c d w = refl
    deeper None None (Some e) d w = refl
    deeper None None None d w = refl

-- ---- what it answers

module _ (order : List ℕ) (from to : List ℕ) (c : Resident) (b : Paged) (k : Counters) (p : Planned) where
  refused : p ≡ unchanged_plan (Plain BadPath) k → ((t : Table) → table_verdict t (Rename from to) ≡ Some BadPath) → PlansFor order (Rename from to) c b k p
  refused is v = λ t s. answers_error order t c b k s (Rename from to) BadPath p is tt (v t)

  -- a text that spells no path is refused
  pub move_from_nowhere : p ≡ unchanged_plan (Plain BadPath) k → names_of from ≡ None → PlansFor order (Rename from to) c b k p
  move_from_nowhere is e = refused is (λ t. bad_path (names_of from) (λ olds. on_names (names_of to) (λ news. checks_of t (is_full t.age) olds news)) e)

  pub move_to_nowhere : (olds : List (List ℕ)) → p ≡ unchanged_plan (Plain BadPath) k → names_of from ≡ Some olds → names_of to ≡ None → PlansFor order (Rename from to) c b k p
  move_to_nowhere olds is e f = refused is (λ t.
      spelled_checks (names_of from) olds (λ olds. on_names (names_of to) (λ news. checks_of t (is_full t.age) olds news)) e ∙ bad_path (names_of to) (λ news. checks_of t (is_full t.age) olds news) f)

  -- and so is a move of the root
  pub move_root : (news : List (List ℕ)) → p ≡ unchanged_plan (Plain BadPath) k → names_of from ≡ Some [] → names_of to ≡ Some news → PlansFor order (Rename from to) c b k p
  move_root news is e f = refused is (λ t. move_verdict t from to [] news e f)

  module _ (olds news : List (List ℕ)) (after : Counters) (e : names_of from ≡ Some olds) (f : names_of to ≡ Some news) (next : after.next ≡ k.next) (age : k.age < 2 ^ 63 → after.age ≡ k.age + 1) where
    -- by what its plan says, the draft leads to the table after it
    pub move_answers : (error : Option PlainError) (d made : Drafted) → d ≡ no_changes → p ≡ checked_plan (then_error error (error_if (is_full k.age) Full)) made k after
        → ((met : List (List ℕ) → Seen) (old new : Shown) → Pictured order met d c old new → error ≡ move_checks (is_top olds) (met olds) (is_front olds news) (no_place met false news))
        → (error ≡ None → SaysMoved order olds news d c made) → PlansFor order (Rename from to) c b k p
    move_answers error d made empty is verdict says = λ t s.
        let v = verdict (seen_in t) (shown order t) (shown order t) (paths_pictured order t c b k s d empty) in
        let checks : table_verdict t (Rename from to) ≡ then_error error (error_if (is_full k.age) Full) =
        move_verdict t from to olds news e f ∙ move_last (seen_in t) (is_full t.age) olds news ∙ ap (λ o. then_error o (error_if (is_full t.age) Full)) (sym v) ∙ ap (λ a. then_error error (error_if (is_full a) Full)) (sym s.age) in
        rows_answer order t c b k s (Rename from to) tt (then_error error (error_if (is_full k.age) Full)) made after p is checks (λ accepted.
        (let m = accepted_move t from to olds news accepted e f in
        let step = moved_step t from to olds news m.row accepted e f m.here in
        let few = below order t c b k s in
        let passes = first_none error (error_if (is_full k.age) Full) (sym checks ∙ accepted) in (
          moves_go_through order t from to olds news d c made (record { pictured = pictured_alone order t c b k s d empty; accepted = accepted }) e f (says passes),
          (next ∙ s.next ∙ ap (λ (u : Table). u.next) (sym step), age few.1 ∙ ap (λ i. i + 1) s.age ∙ ap (λ (u : Table). u.age) (sym step)),
        )))
      where
        first_none : (a w : Option PlainError) → then_error a w ≡ None → a ≡ None
        first_none None w h = refl
        first_none (Some x) w h = absurd (cc)

-- ---- what it lacks

-- the row can be taken out, where no check but the age stands against it, and a directory has the rows that are left
pub record TakenOut (order : List ℕ) (t : Table) (olds news : List (List ℕ)) : Type 0 where
  pub movable : IsMovable order olds (shown order t) (shown order t)
  pub into : ℕ
  pub above : FileId
  pub others : List Row
  pub leads : Resolves (shown order t) order (parent news) (At (id_of into) above)
  pub has : HasRows movable.mid order (id_of into) others

taken_out : (order : List ℕ) (t : Table) (n : List ℕ) (ns news : List (List ℕ)) → IsSound t → IsMove (record { visible = t.visible; trash = t.trash; hand = t.hand; next = t.next; age = 0 }) (n ∷ ns) news
    → TakenOut order t (n ∷ ns) news
taken_out order t n ns news s m =
    let mid = in_hand (n ∷ ns) m.row t in
    let held = hands_are_held t (n ∷ ns) m.row s (omega arith) m.here in
    let d = in_directory_of n ns (root_row t) m.row m.here in
    let dir : Taken = record { id = d.dir.id; file = None; inside = d.dir.inside } in
    let takes : TakesOut t mid (parent (n ∷ ns)) (last (n ∷ ns)) d.dir.id d.dir.inside m.row = record {
      was = held_of t s;
      empty = s.hand;
      is = held;
      leads = d.leads ∙ ap (λ z. Here (record { id = d.dir.id; file = z; inside = d.dir.inside })) d.directory;
      named = d.named;
      visible = refl;
      trash = refl;
      hand = refl;
    } in
    let rows = takes_are_rows order t mid (parent (n ∷ ns)) (last (n ∷ ns)) d.dir.id d.dir.inside m.row takes in
    let left = left_below (parent news) (n ∷ ns) m.free.rows in
    let goal : Taken = record { id = m.free.id; file = None; inside = m.free.rows } in
    let l = leads_at order t (parent news) (root_row t) goal (id_of 0) s (inl (refl, refl)) m.free.leads in
    record {
      movable = record {
        whole = (rooted order t s, formed order t s);
        id = id_of m.row.id;
        out = id_of d.dir.id;
        row = tree_row order (last (n ∷ ns)) m.row;
        rows = rows_of order d.dir.inside;
        mid = shown order mid;
        leads = child_leads order t n ns (root_row t) dir m.row (id_of 0) s (inl (refl, refl)) takes.leads m.here;
        takes = record {
          has = have_rows order t d.dir.id d.dir.inside s (folder_of t (parent (n ∷ ns)) d.dir.id d.dir.inside takes.leads);
          among = rows.0;
          named = refl;
          tree = held_trees order mid held;
          countable = held_counts order mid held;
          arranges = rows.1;
        };
      };
      into = m.free.id;
      above = l.above;
      others = rows_of order left;
      leads = l.leads;
      has = held_rows order mid m.free.id left held (folder_of mid (parent news) m.free.id left (names_lead_on t (n ∷ ns) (parent news) m.row m.free.id m.free.rows s (omega arith) m.apart m.free.leads));
    }

module _ (keys : Keys) (from to : List ℕ) (n : List ℕ) (ns news : List (List ℕ)) (c : Resident) (b : Paged) (k : Counters) (e : names_of from ≡ Some (n ∷ ns)) (f : names_of to ≡ Some news) (d : Drafted) (empty : d ≡ no_changes) where
  move_reaches : (t : Table) (m : Name) → IsMoved keys.order (n ∷ ns) news (shown keys.order t) m → ReachesIn keys t (Rename from to) m
  move_reaches t m moved =
      on_spelled (names_of from) (n ∷ ns) (λ olds. OnNames (names_of to) (λ news. (olds ≢ []) × IsMoved keys.order olds news (shown keys.order t) m)) e
      (on_spelled (names_of to) news (λ news. ((n ∷ ns) ≢ []) × IsMoved keys.order (n ∷ ns) news (shown keys.order t) m) f (λ q. absurd (cc), moved))

  short_of_some : (x : Short) → IsMoveShort keys.order (n ∷ ns) news d c x → IsPlanShort keys (Rename from to) c b k x
  short_of_some (Need m x) short = λ t s. by t s short where
    by : (t : Table) → IsShownBy keys.order t c b k → IsMoveShort keys.order (n ∷ ns) news d c (Need m x) → IsNeeded keys t (Rename from to) c b m x
    by t s (inl lacks) =
        let needed = lacks.needed (shown keys.order t) (shown keys.order t) (seen_in t) (paths_pictured keys.order t c b k s d empty, tt) in
        node_needed keys t (Rename from to) c b m x s.sound (move_reaches t m needed.0) lacks.absent needed.1
    by t s (inr lacks) =
        let pic = paths_pictured keys.order t c b k s d empty in
        let young : Table = record { visible = t.visible; trash = t.trash; hand = t.hand; next = t.next; age = 0 } in
        let passes : table_verdict young (Rename from to) ≡ None = move_verdict young from to (n ∷ ns) news e f ∙ lacks.passes (seen_in t) (shown keys.order t) (shown keys.order t) pic in
        let o = taken_out keys.order t n ns news s.sound (accepted_move young from to (n ∷ ns) news passes e f) in
        let needed = lacks.needed (seen_in t) (shown keys.order t) (shown keys.order t) pic o.movable (id_of o.into) o.above o.others o.leads o.has in
        node_needed keys t (Rename from to) c b m x s.sound (move_reaches t m needed.1) lacks.absent needed.2
  short_of_some NoMemory short = tt

pub move_short : (keys : Keys) (from to : List ℕ) (olds news : List (List ℕ)) (c : Resident) (b : Paged) (k : Counters) → names_of from ≡ Some olds → names_of to ≡ Some news → 0 < length olds → (d : Drafted) → d ≡ no_changes → (x : Short)
    → IsMoveShort keys.order olds news d c x → IsPlanShort keys (Rename from to) c b k x
move_short keys from to [] news c b k e f some d empty x short = absurd (omega (arith, some))
move_short keys from to (n ∷ ns) news c b k e f some d empty x short = short_of_some keys from to n ns news c b k e f d empty x short
