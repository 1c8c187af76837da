-- What a read of a file at a path answers, and what it lacks.
use Rattle.std.proofs.Common.{◌≡◌, ◌⊎◌, ◌+◌, ◌-◌, ◌/◌, ◌≤◌, ◌<◌, ℕ, List, Bool, true, false, take, drop, Option, Some, None, refl, sym, ◌∙◌, ap, subst, inl, inr, arith, rules, tests}
use Rattle.std.specs.Prelude.{min, nat_lt}
use Rattle.iris_blocks.specs.Paged.{Paged}
use Rattle.iris_cache.specs.declared.held.Short.{Short}
use Rattle.iris_cache.specs.declared.held.Short.TheVariants.{Need, NoMemory}
use Rattle.iris_cache.specs.Drafted.{Drafted}
use Rattle.iris_cache.specs.Resident.{Resident}
use Rattle.iris_file_rules.specs.Reach.{InFile, IsLiveOver}
use Rattle.iris_files.specs.Pages.{IsPageShort, LacksPage, read_end}
use Rattle.iris_files.specs.Refiles.{Filed}
use Rattle.iris_mac.specs.declared.keys.Keys.{Keys}
use Rattle.iris_name.specs.declared.name.FileId.{FileId}
use Rattle.iris_name.specs.declared.name.Name.{Name}
use Rattle.iris_name.specs.declared.request.PlainError.{PlainError}
use Rattle.iris_name.specs.declared.request.PlainError.TheVariants.{IsDir, TooMuch}
use Rattle.iris_name.specs.declared.request.Reply.TheVariants.{Bytes as BytesAre, Plain}
use Rattle.iris_name.specs.declared.request.Request.TheVariants.{Read}
use Rattle.iris_name.specs.Paths.{names_of}
use Rattle.iris_node.specs.Unfolded.{id_of}
use Rattle.iris_paths.specs.Pictured.{IsOnTrail}
use Rattle.iris_plain.specs.Checks.{error_if, then_error, unresolved, is_directory_seen, read_checks}
use Rattle.iris_plain.specs.declared.checks.Seen.{Seen}
use Rattle.iris_plain.specs.declared.checks.Seen.TheVariants.{ADirectory, AFile, Nothing, AFileBefore}
use Rattle.iris_plain.specs.declared.files.Kind.TheVariants.{Bytes}
use Rattle.iris_plain.specs.Steps.{bytes_of}
use Rattle.iris_records.specs.Shown.{shown}
use Rattle.iris_requests.specs.declared.planned.Counters.{Counters}
use Rattle.iris_requests.specs.Needed.{IsNeeded, IsPlanShort, ReachesIn}
use Rattle.iris_requests.specs.Planned.{IsShownBy}
use Rattle.iris_requests.proofs.FileAtPath.{StandsAt}
use Rattle.iris_requests.proofs.NeededNames.{page_needed}
use Rattle.iris_requests.proofs.Replies.{accepted_replies, error_replies, spelled_checks, on_spelled}
use Rattle.iris_requests.proofs.ShownTables.{no_changes, file_pictured}
use Rattle.iris_rows.proofs.ViewByPath.{look_resolved, kind_found}
use Rattle.iris_rows.specs.Changes.{seen_in, table_verdict}
use Rattle.iris_rows.specs.Rows.{File, Table, root_row}
use Rattle.iris_rows.specs.Sound.{IsSound}
use Rattle.iris_rows.specs.View.{content, view}
use Rattle.iris_table.specs.Replies.{TableReplies}

-- ---- the checks

-- only a file is read
pub reads_file : (here : Seen) (count : ℕ) → read_checks here count ≡ None → (size : ℕ) × (here ≡ AFile size)
reads_file here count e = kind here (by (nat_lt 262144 count) e) where
  by : (b : Bool) → then_error (error_if b TooMuch) (then_error (unresolved here) (error_if (is_directory_seen here) IsDir)) ≡ None
      → then_error (unresolved here) (error_if (is_directory_seen here) IsDir) ≡ None
  by true e = absurd (cc)
  by false e = e

  kind : (here : Seen) → then_error (unresolved here) (error_if (is_directory_seen here) IsDir) ≡ None → (size : ℕ) × (here ≡ AFile size)
  kind ADirectory e = absurd (cc)
  kind (AFile size) e = (size, refl)
  kind Nothing e = absurd (cc)
  kind AFileBefore e = absurd (cc)

-- so many bytes are too many, whatever stands there
pub too_many : (here : Seen) (count : ℕ) → 262144 < count → read_checks here count ≡ Some TooMuch
too_many here count lt = by (nat_lt 262144 count) (search (rules, tests)) where
  by : (b : Bool) → b ≡ true → then_error (error_if b TooMuch) (then_error (unresolved here) (error_if (is_directory_seen here) IsDir)) ≡ Some TooMuch
  by true e = refl
  by false e = absurd (cc)

pub read_verdict : (t : Table) (text : List ℕ) (names : List (List ℕ)) (offset count : ℕ) (here : Seen) → names_of text ≡ Some names → seen_in t names ≡ here → table_verdict t (Read text offset count) ≡ read_checks here count
read_verdict t text names offset count here e sees = spelled_checks (names_of text) names (λ names. read_checks (seen_in t names) count) e ∙ ap (λ s. read_checks s count) sees

-- a check that applies is the reply
pub read_refused : (order : List ℕ) (t : Table) (text : List ℕ) (names : List (List ℕ)) (offset count : ℕ) (here : Seen) (error : PlainError) → IsSound t → names_of text ≡ Some names → seen_in t names ≡ here
    → read_checks here count ≡ Some error → TableReplies order t (Read text offset count) (Plain error)
read_refused order t text names offset count here error s e sees applies =
    error_replies order t (Read text offset count) error tt s (read_verdict t text names offset count here e sees ∙ applies)

-- ---- the bytes

-- clients see the file's bytes at its path
file_viewed : (order : List ℕ) (t : Table) (names : List (List ℕ)) (id : FileId) (size : ℕ) → (s : StandsAt order t names id size) → (view t).files names ≡ Some (Bytes (content s.f))
file_viewed order t names id size s = look_resolved names (root_row t) ∙ ap kind_found s.leads

pub read_replies : (order : List ℕ) (t : Table) (text : List ℕ) (names : List (List ℕ)) (offset count : ℕ) (id : FileId) (size : ℕ) (bytes : List ℕ) → IsSound t → names_of text ≡ Some names
    → seen_in t names ≡ AFile size → read_checks (AFile size) count ≡ None → (s : StandsAt order t names id size) → bytes ≡ take count (drop offset (content s.f)) → TableReplies order t (Read text offset count) (BytesAre bytes)
read_replies order t text names offset count id size bytes sound e sees none s same =
    accepted_replies order t (Read text offset count) (BytesAre bytes) tt sound (read_verdict t text names offset count (AFile size) e sees ∙ none)
    (on_spelled (names_of text) names (λ names. BytesAre bytes ≡ BytesAre (take count (drop offset (bytes_of ((view t).files names))))) e
    (ap BytesAre (same ∙ ap (λ z. take count (drop offset (bytes_of z))) (sym (file_viewed order t names id size s)))))

-- ---- what is lacking

module _ (keys : Keys) (c : Resident) (b : Paged) (k : Counters) (text : List ℕ) (names : List (List ℕ)) (offset count : ℕ) (e : names_of text ≡ Some names) (few : count ≤ 262144) where
  pub trail_reached : (t : Table) (n : Name) → IsOnTrail keys.order names (shown keys.order t) n → ReachesIn keys t (Read text offset count) n
  trail_reached t n trail = on_spelled (names_of text) names (λ names. (count ≤ 262144) × (IsOnTrail keys.order names (shown keys.order t) n
      ⊎ InFile (shown keys.order t) keys.order names (λ size. offset) (λ size. min (offset + count) size) n)) e (few, inl trail)

  bytes_reached : (t : Table) (id : FileId) (size : ℕ) (n : Name) → (s : StandsAt keys.order t names id size) → 0 < count → offset < s.f.size
      → IsLiveOver (shown keys.order t) (id_of s.i) (offset / 4096) (read_end offset count s.f) n → ReachesIn keys t (Read text offset count) n
  bytes_reached t id size n s some before over =
      let sized : s.f.size ≡ size = s.sized in
      let end : offset + min count (s.f.size - offset) ≡ min (offset + count) size = omega arith in
      on_spelled (names_of text) names (λ names. (count ≤ 262144) × (IsOnTrail keys.order names (shown keys.order t) n
      ⊎ InFile (shown keys.order t) keys.order names (λ size. offset) (λ size. min (offset + count) size) n)) e (
        few,
        inr (record {
          id = id_of s.i;
          size = size;
          at = s.at;
          some = omega arith;
          over = subst (λ z. IsLiveOver (shown keys.order t) (id_of s.i) (offset / 4096) ((z + 4095) / 4096) n) end over;
        }),
      )

  module _ (d : Drafted) (none : d ≡ no_changes) where
    pub read_short : (id : FileId) (size : ℕ) (x : Short) → ((t : Table) → IsShownBy keys.order t c b k → StandsAt keys.order t names id size)
        → ((t : Table) (f : File) → Filed (shown keys.order t) (shown keys.order t) id f d c → IsPageShort d c b id (offset / 4096) (read_end offset count f) x × ((0 < count) × (offset < f.size)))
        → IsPlanShort keys (Read text offset count) c b k x
    read_short id size NoMemory stands short = tt
    read_short id size (Need n x) stands short = λ t shows.
        let s = stands t shows in
        let lacks = short t s.f (subst (λ j. Filed (shown keys.order t) (shown keys.order t) j s.f d c) (sym s.is) (file_pictured keys.order t c b k shows d none s.i s.f s.stands)) in
        page_needed keys (Read text offset count) c b k d none t s.i s.f (offset / 4096) (read_end offset count s.f) n x shows s.stands (bytes_reached t id size n s lacks.1.0 lacks.1.1)
        (subst (λ j. LacksPage d c b j (offset / 4096) (read_end offset count s.f) n x) s.is lacks.0)
