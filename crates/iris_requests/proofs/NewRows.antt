-- A new file or directory is planned as the table makes it.
use Rattle.std.proofs.Common.{◌≡◌, ◌≢◌, ◌<◌, ◌+◌, ◌^◌, ◌∙◌, ℕ, List, [], ◌∷◌, length, Bool, true, false, Option, Some, None, refl, sym, ap, subst, arith}
use Rattle.iris_blocks.specs.Paged.{Paged}
use Rattle.iris_cache.specs.declared.held.Short.{Short}
use Rattle.iris_cache.specs.declared.held.Short.TheVariants.{Need, NoMemory}
use Rattle.iris_cache.specs.Drafted.{Drafted}
use Rattle.iris_cache.specs.Resident.{Resident}
use Rattle.iris_forest.proofs.NamesNowhere.{next_is_new}
use Rattle.iris_forest.proofs.NodesAreFormed.{formed, rooted}
use Rattle.iris_mac.specs.declared.keys.Keys.{Keys}
use Rattle.iris_name.specs.declared.name.Name.{Name}
use Rattle.iris_name.specs.declared.name.Name.TheVariants.{Entry}
use Rattle.iris_name.specs.declared.request.PlainError.{PlainError}
use Rattle.iris_name.specs.declared.request.PlainError.TheVariants.{BadPath, Exists, NotDir, Full}
use Rattle.iris_name.specs.declared.request.Reply.TheVariants.{Plain}
use Rattle.iris_name.specs.Paths.{names_of}
use Rattle.iris_node.specs.Trees.{Shown}
use Rattle.iris_node.specs.Unfolded.{id_of}
use Rattle.iris_paths.specs.Making.{IsNew}
use Rattle.iris_paths.specs.Pictured.{Pictured, IsOnTrail, IsPathShort}
use Rattle.iris_plain.specs.Checks.{error_if, then_error, unresolved, is_file, is_full, is_there, no_place}
use Rattle.iris_plain.specs.declared.checks.Seen.{Seen}
use Rattle.iris_plain.specs.Routes.{parent, is_top}
use Rattle.iris_plan_laws.specs.Makes.{SaysMade}
use Rattle.iris_plan_laws.proofs.AcceptedRequests.{made_step}
use Rattle.iris_plan_laws.proofs.MadeRow.{makes_go_through}
use Rattle.iris_records.specs.Shown.{shown}
use Rattle.iris_requests.specs.declared.planned.Counters.{Counters}
use Rattle.iris_requests.specs.declared.planned.Planned.{Planned}
use Rattle.iris_requests.specs.Needed.{IsPlanShort, ReachesIn}
use Rattle.iris_requests.specs.Outcomes.{checked_plan}
use Rattle.iris_requests.specs.Planned.{IsShownBy, PlansFor}
use Rattle.iris_requests.specs.Served.{IsPlannable, new_at}
use Rattle.iris_requests.proofs.Answered.{answers_error, unchanged_plan}
use Rattle.iris_requests.proofs.NeededNames.{node_needed}
use Rattle.iris_requests.proofs.Replies.{bad_path, spelled_checks, on_spelled}
use Rattle.iris_requests.proofs.RowsPlanned.{last_of_four, rows_answer}
use Rattle.iris_requests.proofs.ShownTables.{no_changes, pictured_alone, paths_pictured}
use Rattle.iris_plan_laws.specs.Blocks.{IsOfRows}
use Rattle.iris_rows.specs.Changes.{table_verdict, seen_in, made}
use Rattle.iris_rows.specs.Rows.{Table}

-- ---- its checks

new_plannable : (dir : Bool) (text : List ℕ) → IsPlannable (new_at dir text)
new_plannable true text = tt
new_plannable false text = tt

new_of_rows : (dir : Bool) (text : List ℕ) → IsOfRows (new_at dir text)
new_of_rows true text = tt
new_of_rows false text = tt

new_verdict : (t : Table) (dir : Bool) (text : List ℕ) (names : List (List ℕ)) → names_of text ≡ Some names → table_verdict t (new_at dir text) ≡ no_place (seen_in t) (is_full t.age) names
new_verdict t true text names e = spelled_checks (names_of text) names (no_place (seen_in t) (is_full t.age)) e
new_verdict t false text names e = spelled_checks (names_of text) names (no_place (seen_in t) (is_full t.age)) e

bad_verdict : (t : Table) (dir : Bool) (text : List ℕ) → names_of text ≡ None → table_verdict t (new_at dir text) ≡ Some BadPath
bad_verdict t true text e = bad_path (names_of text) (no_place (seen_in t) (is_full t.age)) e
bad_verdict t false text e = bad_path (names_of text) (no_place (seen_in t) (is_full t.age)) e

-- the age is checked last
pub place_last : (met : List (List ℕ) → Seen) (full : Bool) (names : List (List ℕ)) → no_place met full names ≡ then_error (no_place met false names) (error_if full Full)
place_last met full names =
    last_of_four (error_if (is_top names) Exists) (unresolved (met (parent names))) (error_if (is_file (met (parent names))) NotDir) (error_if (is_there (met names)) Exists) (error_if full Full)

-- ---- what it answers

-- a text that spells no path is refused, and so is the root's
pub new_nowhere : (order : List ℕ) (dir : Bool) (text : List ℕ) (c : Resident) (b : Paged) (k : Counters) (p : Planned) → p ≡ unchanged_plan (Plain BadPath) k → names_of text ≡ None → PlansFor order (new_at dir text) c b k p
new_nowhere order dir text c b k p is e = λ t s. answers_error order t c b k s (new_at dir text) BadPath p is (new_plannable dir text) (bad_verdict t dir text e)

pub new_root : (order : List ℕ) (dir : Bool) (text : List ℕ) (c : Resident) (b : Paged) (k : Counters) (p : Planned) → p ≡ unchanged_plan (Plain Exists) k → names_of text ≡ Some [] → PlansFor order (new_at dir text) c b k p
new_root order dir text c b k p is e = λ t s. answers_error order t c b k s (new_at dir text) Exists p is (new_plannable dir text) (new_verdict t dir text [] e)

-- an id and an age have 64 bits, and more to spare
pub below : (order : List ℕ) (t : Table) (c : Resident) (b : Paged) (k : Counters) → IsShownBy order t c b k → (k.next < 2 ^ 63) × (k.age < 2 ^ 63)
below order t c b k s = let n = s.next in let a = s.age in let x = s.sound.next in let y = s.sound.age in (omega (arith, n, x, y), omega (arith, a, y))

module _ (order : List ℕ) (dir : Bool) (text : List ℕ) (names : List (List ℕ)) (c : Resident) (b : Paged) (k after : Counters) (e : names_of text ≡ Some names)
    (next : k.next < 2 ^ 63 → after.next ≡ k.next + 1) (age : k.age < 2 ^ 63 → after.age ≡ k.age + 1) where
  -- by what its plan says, the draft leads to the table after it
  pub new_answers : (error : Option PlainError) (d made : Drafted) (p : Planned) → d ≡ no_changes → p ≡ checked_plan (then_error error (error_if (is_full k.age) Full)) made k after
      → ((met : List (List ℕ) → Seen) (old new : Shown) → Pictured order met d c old new → error ≡ no_place met false names)
      → (error ≡ None → SaysMade order names (record { 0 = k.next }) dir d c made) → PlansFor order (new_at dir text) c b k p
  new_answers error d made p empty is verdict says = λ t s.
      let v = verdict (seen_in t) (shown order t) (shown order t) (paths_pictured order t c b k s d empty) in
      let checks : table_verdict t (new_at dir text) ≡ then_error error (error_if (is_full k.age) Full) =
      new_verdict t dir text names e ∙ place_last (seen_in t) (is_full t.age) names ∙ ap (λ o. then_error o (error_if (is_full t.age) Full)) (sym v) ∙ ap (λ a. then_error error (error_if (is_full a) Full)) (sym s.age) in
      rows_answer order t c b k s (new_at dir text) (new_of_rows dir text) (then_error error (error_if (is_full k.age) Full)) made after p is checks (λ accepted.
      (let step = made_step t dir text names accepted e in
      let few = below order t c b k s in
      let passes = first_none error (error_if (is_full k.age) Full) (sym checks ∙ accepted) in (
        makes_go_through order t dir text names d c made (record { pictured = pictured_alone order t c b k s d empty; accepted = accepted }) e
            (subst (λ i. SaysMade order names (id_of i) dir d c made) s.next (says passes)),
        (next few.0 ∙ ap (λ i. i + 1) s.next ∙ ap (λ (u : Table). u.next) (sym step), age few.1 ∙ ap (λ i. i + 1) s.age ∙ ap (λ (u : Table). u.age) (sym step)),
      )))
    where
      first_none : (a w : Option PlainError) → then_error a w ≡ None → a ≡ None
      first_none None w h = refl
      first_none (Some x) w h = absurd (cc)

-- ---- what it lacks

module _ (keys : Keys) (dir : Bool) (text : List ℕ) (names : List (List ℕ)) (c : Resident) (b : Paged) (k : Counters) (e : names_of text ≡ Some names) (some : 0 < length names) where
  some_names : (ns : List (List ℕ)) → 0 < length ns → ns ≢ []
  some_names [] h = absurd (omega (arith, h))
  some_names (n ∷ ns) h = λ q. absurd (cc)

  new_reaches : (dir : Bool) (t : Table) (n : Name) → IsOnTrail keys.order names (shown keys.order t) n → ReachesIn keys t (new_at dir text) n
  new_reaches true t n trail = on_spelled (names_of text) names (λ names. (names ≢ []) × IsOnTrail keys.order names (shown keys.order t) n) e (some_names names some, trail)
  new_reaches false t n trail = on_spelled (names_of text) names (λ names. (names ≢ []) × IsOnTrail keys.order names (shown keys.order t) n) e (some_names names some, trail)

  -- the next id is new in each table that is shown
  next_new : (t : Table) → IsShownBy keys.order t c b k → IsNew (record { 0 = k.next }) (shown keys.order t) (shown keys.order t)
  next_new t s = ((rooted keys.order t s.sound, formed keys.order t s.sound), subst (λ i. shown keys.order t (Entry (id_of i)) ≡ None) (sym s.next) (next_is_new keys.order t s.sound))

  pub new_short : (d : Drafted) (x : Short) → d ≡ no_changes → IsPathShort keys.order (IsNew (record { 0 = k.next })) (IsOnTrail keys.order names) d c x → IsPlanShort keys (new_at dir text) c b k x
  new_short d (Need n x) empty lacks = λ t s.
      let needed = lacks.needed (shown keys.order t) (shown keys.order t) (seen_in t) (paths_pictured keys.order t c b k s d empty, next_new t s) in
      node_needed keys t (new_at dir text) c b n x s.sound (new_reaches dir t n needed.0) lacks.absent needed.1
  new_short d NoMemory empty lacks = tt

-- no names are the root's
pub no_names : (names : List (List ℕ)) → length names ≡ 0 → names ≡ []
no_names [] e = refl
no_names (n ∷ ns) e = absurd (omega (arith, e))
