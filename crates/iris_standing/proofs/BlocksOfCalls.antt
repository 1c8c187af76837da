-- How many blocks a planned call changes: 65 at most, and none where it writes no file.
use Rattle.std.proofs.Common.{◌≡◌, ◌≢◌, ◌+◌, ◌<◌, ◌≤◌, ◌⊎◌, ◌||◌, inl, inr, ℕ, zero, suc, Bool, true, false, cond, List, [], ◌∷◌, length, Option, Some, None, refl, ap, sym, ◌∙◌, subst, arith, true≢false}
use Rattle.std.specs.Prelude.{◌==◌, is_none}
use Rattle.std.specs.List.{list_any}
use Rattle.iris_history.specs.Kept.{is_block, takes_step}
use Rattle.iris_invariant.proofs.Bounds.{lists_count}
use Rattle.iris_invariant.proofs.Events.{or_left, or_right, which, which_caller}
use Rattle.iris_invariant.specs.Agrees.{View}
use Rattle.iris_invariant.specs.Bounds.{AtMost, IsMarkedOf}
use Rattle.iris_name.specs.declared.name.FileId.{FileId}
use Rattle.iris_name.specs.declared.name.Name.{Name}
use Rattle.iris_name.specs.declared.name.Name.TheVariants.{Block, Entry, Part}
use Rattle.iris_name.specs.declared.request.PlainError.{PlainError}
use Rattle.iris_name.specs.declared.request.Reply.{Reply}
use Rattle.iris_name.specs.declared.request.Request.{Request}
use Rattle.iris_name.specs.declared.request.Request.TheVariants.{Mkdir, Create, Write, Read, Resize, Stat, List as ListNames, Rename, Remove, Sync, Root, Reclaim, Probe}
use Rattle.iris_name.specs.NameLaws.{same_name-refl}
use Rattle.iris_name.specs.Names.{same_name}
use Rattle.iris_name.specs.Paths.{names_of}
use Rattle.iris_node.specs.Trees.{Shown}
use Rattle.iris_node.specs.Unfolded.{id_of}
use Rattle.iris_plain.specs.Checks.{is_full, on_names, resize_checks, write_checks}
use Rattle.iris_plain.specs.declared.checks.Seen.TheVariants.{AFile}
use Rattle.iris_plain.specs.Steps.{by_names}
use Rattle.iris_plan_laws.proofs.AcceptedRequests.{has_names, refused_step}
use Rattle.iris_plan_laws.proofs.BlocksOfRows.{rows_keep_blocks}
use Rattle.iris_plan_laws.proofs.BlocksOfSteps.{resizes_change_blocks, writes_change_blocks}
use Rattle.iris_plan_laws.specs.Begun.{IsAtFile}
use Rattle.iris_plan_laws.specs.Blocks.{AreAmong, ChangesBlocks, IsOfRows}
use Rattle.iris_records.specs.Shown.{shown}
use Rattle.iris_requests.proofs.BytesWritten.{writes_file}
use Rattle.iris_requests.proofs.LengthsChanged.{resizes_file}
use Rattle.iris_requests.specs.Planned.{after_reply}
use Rattle.iris_requests.specs.Served.{IsPlannable}
use Rattle.iris_rows.specs.Changes.{accepted_change, filed, seen_file, seen_in, seen_row, stepped, table_verdict}
use Rattle.iris_rows.specs.FileChanges.{file_written}
use Rattle.iris_rows.specs.Rows.{File, Found, Here, Missing, Table, Taken, Through, met}
use Rattle.iris_rows.specs.Sound.{IsSound}
use Rattle.iris_standing.proofs.CarriedOver.{each_several}

-- ---- lists

pub none_at_most : (P : Name → Type 0) (most : ℕ) → ((n : Name) → P n → ⊥) → AtMost most P
none_at_most P most f [] h = omega arith
none_at_most P most f (n ∷ ns) h = absurd (f n h.0)

-- a view in which the names of a list are doomed
abbrev listing : List Name → View
listing listed = record {
  cell = λ n. record { resident = false; dirty = false; doomed = list_any (same_name n) listed; settled = false; out = None };
  asked = λ w. None;
  kept = λ w n. false;
  pinned = λ w n. false;
}

-- what has P is listed, so no more have it than the list is long
listed_at_most : (P : Name → Type 0) (listed : List Name) → ((n : Name) → P n → list_any (same_name n) listed ≡ true) → AtMost (length listed) P
listed_at_most P listed f ns h = lists_count (λ n. true) (listing listed) listed (λ n m. m.1) ns (each_several P (IsMarkedOf (λ n. true) (listing listed)) (λ n q. (refl, f n q)) ns h)

-- the blocks of a file at so many places in a row
row : FileId → ℕ → ℕ → List Name
row file zero first = []
row file (suc k) first = Block file first ∷ row file k (first + 1)

row_length : (file : FileId) (k first : ℕ) → length (row file k first) ≡ k
unfolding row
row_length file zero first = refl
row_length file (suc k) first = let h = row_length file k (first + 1) in omega (arith, h)

in_row : (file : FileId) (k first p : ℕ) → first ≤ p → p < first + k → list_any (same_name (Block file p)) (row file k first) ≡ true
unfolding row
in_row file zero first p le lt = absurd (omega (arith, le, lt))
in_row file (suc k) first p le lt = by (which_caller first p) (λ ne. in_row file k (first + 1) p (omega (arith, le, ne)) (omega (arith, lt))) where
  by : (p ≡ first) ⊎ (p ≢ first) → (p ≢ first → list_any (same_name (Block file p)) (row file k (first + 1)) ≡ true) → (same_name (Block file p) (Block file first) || list_any (same_name (Block file p)) (row file k (first + 1))) ≡ true
  by (inl e) further = or_left (same_name (Block file p) (Block file first)) (list_any (same_name (Block file p)) (row file k (first + 1))) (ap (λ z. same_name (Block file p) (Block file z)) (sym e) ∙ same_name-refl (Block file p))
  by (inr ne) further = or_right (same_name (Block file p) (Block file first)) (list_any (same_name (Block file p)) (row file k (first + 1))) (further ne)

-- ---- blocks that differ

abbrev pub Differs : Shown → Shown → Name → Type 0
Differs t u n = (is_block n ≡ true) × (u n ≢ t n)

module _ (t u : Shown) (file : FileId) (picks : ℕ → Bool) (changes : ChangesBlocks t u file picks) (among : AreAmong 65 picks) where
  at_place : (p : ℕ) → (u (Block file p) ≡ t (Block file p) → ⊥) → list_any (same_name (Block file p)) (row file 65 among.0) ≡ true
  at_place p ne = by (picks p) refl where
    by : (b : Bool) → picks p ≡ b → list_any (same_name (Block file p)) (row file 65 among.0) ≡ true
    by true e = let r = among.1 p e in in_row file 65 among.0 p r.0 r.1
    by false e = absurd (ne (changes.kept p e))

  in_file : (n : Name) → Differs t u n → list_any (same_name n) (row file 65 among.0) ≡ true
  in_file (Entry i) d = absurd (true≢false (sym d.0))
  in_file (Part f l i) d = absurd (true≢false (sym d.0))
  in_file (Block f p) d = by (which (Block file p) (Block f p)) where
    by : (Block file p ≡ Block f p) ⊎ (same_name (Block file p) (Block f p) ≡ false) → list_any (same_name (Block f p)) (row file 65 among.0) ≡ true
    by (inl e) = subst (λ n. list_any (same_name n) (row file 65 among.0) ≡ true) e (at_place p (λ same. d.1 (subst (λ n. u n ≡ t n) e same)))
    by (inr other) = absurd (d.1 (changes.others f p (λ e. true≢false (sym (same_name-refl (Block f p)) ∙ ap (λ g. same_name (Block g p) (Block f p)) e ∙ other))))

  pub file_at_most : AtMost 65 (Differs t u)
  file_at_most = subst (λ k. AtMost k (Differs t u)) (row_length file 65 among.0) (listed_at_most (Differs t u) (row file 65 among.0) in_file)

-- ---- a step of a planned request

abbrev pub most_changed : Request → ℕ
most_changed (Write path offset bytes) = 65
most_changed (Resize path size) = 65
most_changed (Mkdir path) = 0
most_changed (Create path) = 0
most_changed (Read path offset count) = 0
most_changed (Stat path) = 0
most_changed (ListNames path after) = 0
most_changed (Rename from to) = 0
most_changed (Remove path) = 0
most_changed Sync = 0
most_changed Root = 0
most_changed Reclaim = 0
most_changed (Probe at) = 0

-- a file met is a row with it
file_row : (r : Taken) (size : ℕ) → seen_file r.file ≡ AFile size → (f : File) × (r.file ≡ Some f)
file_row r size e = by r.file e where
  by : (file : Option File) → seen_file file ≡ AFile size → (f : File) × (file ≡ Some f)
  by None e = absurd (cc)
  by (Some f) e = (f, refl)

file_met : (found : Found) (size : ℕ) → seen_row found ≡ AFile size → (r : Taken) × (found ≡ Here r) × (seen_file r.file ≡ AFile size)
file_met (Here r) size e = (r, refl, e)
file_met Missing size e = absurd (cc)
file_met Through size e = absurd (cc)

record AtFile (t : Table) (path : List ℕ) : Type 0 where
  i : ℕ
  f : File
  at : IsAtFile t path i f

at_file : (t : Table) (path : List ℕ) (names : List (List ℕ)) (size : ℕ) → names_of path ≡ Some names → seen_in t names ≡ AFile size → AtFile t path
at_file t path names size spelled sees =
    let m = file_met (met t names) size sees in
    let f = file_row m.0 size m.2 in
    record { i = (m.0).id; f = f.0; at = record { names = names; spelled = spelled; inside = (m.0).inside; leads = m.1 ∙ ap (λ z. Here (record { id = (m.0).id; file = z; inside = (m.0).inside })) f.1 } }

named : (o : Option (List (List ℕ))) (names : List (List ℕ)) (checks : List (List ℕ) → Option PlainError) → o ≡ Some names → on_names o checks ≡ None → checks names ≡ None
named o names checks n e = sym (ap (λ z. on_names z checks) n) ∙ e

module _ (order : List ℕ) (t : Table) (sound : IsSound t) where
  abbrev changed : Request → Name → Type 0
  changed request = Differs (shown order t) (shown order (stepped t request))

  same_none : (u : Table) (most : ℕ) → u ≡ t → AtMost most (Differs (shown order t) (shown order u))
  same_none u most e = none_at_most (Differs (shown order t) (shown order u)) most (λ n d. d.1 (ap (λ z. shown order z n) e))

  either_way : (b : Bool) → cond b t t ≡ t
  either_way true = refl
  either_way false = refl

  rows_none : (request : Request) → IsOfRows request → AtMost 0 (changed request)
  rows_none request is = none_at_most (changed request) 0 by where
    by : (n : Name) → changed request n → ⊥
    by (Entry i) d = true≢false (sym d.0)
    by (Part f l i) d = true≢false (sym d.0)
    by (Block f p) d = d.1 (rows_keep_blocks order t request sound is f p)

  written : (path : List ℕ) (offset : ℕ) (bytes : List ℕ) → AtMost 65 (changed (Write path offset bytes))
  written path offset bytes = by (table_verdict t (Write path offset bytes)) refl where
    some_bytes : table_verdict t (Write path offset bytes) ≡ None → 0 < length bytes → AtMost 65 (changed (Write path offset bytes))
    some_bytes e some =
        let checks = λ (names : List (List ℕ)). write_checks (seen_in t names) offset (length bytes) (is_full t.age) in
        let n = has_names (names_of path) checks e in
        let w = writes_file (seen_in t n.0) offset (length bytes) (is_full t.age) some (named (names_of path) n.0 checks n.1 e) in
        let a = at_file t path n.0 w.size n.1 w.is in
        let c = writes_change_blocks order t path offset bytes a.i a.f sound e a.at some in
        file_at_most (shown order t) (shown order (stepped t (Write path offset bytes))) (id_of a.i) _ c.0 c.1

    no_bytes : table_verdict t (Write path offset bytes) ≡ None → (length bytes == 0) ≡ true → AtMost 65 (changed (Write path offset bytes))
    no_bytes e none = same_none (stepped t (Write path offset bytes)) 65 (ap (λ v. cond (is_none v) (accepted_change t (Write path offset bytes)) t) e ∙ idle (names_of path)) where
      idle : (o : Option (List (List ℕ))) → by_names t o (λ names. cond (length bytes == 0) t (filed (file_written offset bytes) names t)) ≡ t
      idle None = refl
      idle (Some names) = ap (λ b. cond b t (filed (file_written offset bytes) names t)) none

    accepted_write : table_verdict t (Write path offset bytes) ≡ None → (b : Bool) → (length bytes == 0) ≡ b → AtMost 65 (changed (Write path offset bytes))
    accepted_write e true z = no_bytes e z
    accepted_write e false z = some_bytes e (positive (length bytes) z) where
      positive : (k : ℕ) → (k == 0) ≡ false → 0 < k
      positive zero e = absurd (cc)
      positive (suc k) e = omega arith

    by : (v : Option PlainError) → table_verdict t (Write path offset bytes) ≡ v → AtMost 65 (changed (Write path offset bytes))
    by (Some x) e = same_none (stepped t (Write path offset bytes)) 65 (refused_step t (Write path offset bytes) x e)
    by None e = accepted_write e (length bytes == 0) refl

  resized : (path : List ℕ) (size : ℕ) → 0 < size → AtMost 65 (changed (Resize path size))
  resized path size some = by (table_verdict t (Resize path size)) refl where
    by : (v : Option PlainError) → table_verdict t (Resize path size) ≡ v → AtMost 65 (changed (Resize path size))
    by (Some x) e = same_none (stepped t (Resize path size)) 65 (refused_step t (Resize path size) x e)
    by None e =
        let checks = λ (names : List (List ℕ)). resize_checks (seen_in t names) size (is_full t.age) in
        let n = has_names (names_of path) checks e in
        let w = resizes_file (seen_in t n.0) size (is_full t.age) (named (names_of path) n.0 checks n.1 e) in
        let a = at_file t path n.0 w.old n.1 w.is in
        let c = resizes_change_blocks order t path size a.i a.f sound e a.at some in
        file_at_most (shown order t) (shown order (stepped t (Resize path size))) (id_of a.i) _ c.0 c.1

  pub few_changed : (request : Request) → IsPlannable request → AtMost (most_changed request) (changed request)
  few_changed (Mkdir path) is = rows_none (Mkdir path) tt
  few_changed (Create path) is = rows_none (Create path) tt
  few_changed (Write path offset bytes) is = written path offset bytes
  few_changed (Read path offset count) is = same_none (stepped t (Read path offset count)) 0 (either_way (is_none (table_verdict t (Read path offset count))))
  few_changed (Resize path size) is = resized path size is
  few_changed (Stat path) is = same_none (stepped t (Stat path)) 0 (either_way (is_none (table_verdict t (Stat path))))
  few_changed (ListNames path after) is = same_none (stepped t (ListNames path after)) 0 (either_way (is_none (table_verdict t (ListNames path after))))
  few_changed (Rename from to) is = rows_none (Rename from to) tt
  few_changed (Remove path) is = absurd is
  few_changed Sync is = absurd is
  few_changed Root is = absurd is
  few_changed Reclaim is = absurd is
  few_changed (Probe at) is = absurd is

  -- so it is after any reply
  pub few_changed_by : (request : Request) (reply : Reply) → IsPlannable request → AtMost (most_changed request) (Differs (shown order t) (shown order (after_reply t request reply)))
  few_changed_by request reply is = by (takes_step reply) where
    by : (b : Bool) → AtMost (most_changed request) (Differs (shown order t) (shown order (cond b (stepped t request) t)))
    by true = few_changed request is
    by false = same_none t (most_changed request) refl
