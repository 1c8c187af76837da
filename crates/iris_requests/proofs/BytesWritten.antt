-- A write of a file at a path is planned as the table makes it.
use Rattle.std.proofs.Common.{◌≡◌, ◌⊎◌, ◌+◌, ◌-◌, ◌/◌, ◌≤◌, ◌<◌, ◌^◌, ℕ, List, length, Bool, true, false, cond, Option, Some, None, refl, sym, ◌∙◌, ap, subst, inl, inr, arith, rules, tests}
use Rattle.std.specs.Prelude.{◌==◌, nat_lt}
use Rattle.std.proofs.lemmas.Bool.{eqb-true}
use Rattle.std.proofs.lemmas.Bool.Decides.{nat_tests}
use Rattle.iris_blocks.specs.declared.draft.PageChange.{PageChange}
use Rattle.iris_blocks.specs.Changes.{PageDrafted, change_of}
use Rattle.iris_blocks.specs.Paged.{Paged, ArePagesSound, IsBlock}
use Rattle.iris_cache.specs.declared.held.Short.{Short}
use Rattle.iris_cache.specs.declared.held.Short.TheVariants.{Need, NoMemory}
use Rattle.iris_cache.specs.Drafted.{Drafted}
use Rattle.iris_cache.specs.Resident.{Resident}
use Rattle.iris_file_rules.specs.Reach.{InFile, IsLiveOver}
use Rattle.iris_files.specs.Pages.{AreOldsResident, IsPageShort, LacksPage, is_block_in, page_written, place_of}
use Rattle.iris_files.specs.Refiles.{Filed}
use Rattle.iris_mac.specs.declared.keys.Keys.{Keys}
use Rattle.iris_name.specs.declared.name.FileId.{FileId}
use Rattle.iris_name.specs.declared.name.Name.{Name}
use Rattle.iris_name.specs.declared.name.Name.TheVariants.{Entry, Part, Block}
use Rattle.iris_name.specs.declared.request.PlainError.{PlainError}
use Rattle.iris_name.specs.declared.request.PlainError.TheVariants.{BadPath, IsDir, TooMuch, TooLong, Full}
use Rattle.iris_name.specs.declared.request.Reply.TheVariants.{Done, Plain}
use Rattle.iris_name.specs.declared.request.Request.TheVariants.{Write}
use Rattle.iris_name.specs.Paths.{names_of}
use Rattle.iris_node.specs.Unfolded.{id_of}
use Rattle.iris_paths.specs.Pictured.{IsOnTrail}
use Rattle.iris_plain.specs.Checks.{error_if, then_error, unresolved, is_directory_seen, is_full, write_checks}
use Rattle.iris_plain.specs.declared.checks.Seen.{Seen}
use Rattle.iris_plain.specs.declared.checks.Seen.TheVariants.{ADirectory, AFile, Nothing, AFileBefore}
use Rattle.iris_plain.specs.Steps.{by_names}
use Rattle.iris_plan_laws.specs.Begun.{PlanBegins}
use Rattle.iris_plan_laws.specs.FileChanges.{SaysWritten}
use Rattle.iris_plan_laws.specs.PageChanges.{SaysPagesWritten}
use Rattle.iris_plan_laws.proofs.AcceptedRequests.{written_step}
use Rattle.iris_plan_laws.proofs.ChangedFile.{writes_go_through}
use Rattle.iris_plan_laws.proofs.PagesOfSteps.{writes_change_pages}
use Rattle.iris_records.specs.Shown.{shown}
use Rattle.iris_requests.specs.declared.planned.Counters.{Counters}
use Rattle.iris_requests.specs.declared.planned.Planned.{Planned}
use Rattle.iris_requests.specs.Needed.{IsPlanShort, ReachesIn}
use Rattle.iris_requests.specs.Planned.{IsShownBy, Fulfills, PlansFor}
use Rattle.iris_requests.proofs.Answered.{answers_error, answers_unchanged, unchanged_plan}
use Rattle.iris_plan_laws.proofs.ChangedPages.{pages_change_each}
use Rattle.iris_requests.proofs.FileAtPath.{StandsAt, at_file}
use Rattle.iris_requests.proofs.NeededNames.{page_needed}
use Rattle.iris_requests.proofs.NewRows.{below}
use Rattle.iris_requests.proofs.Replies.{accepted_replies, bad_path, spelled_checks, on_spelled, unchanged_after}
use Rattle.iris_requests.proofs.ShownTables.{no_changes, no_pages, pictured_alone, file_pictured}
use Rattle.iris_rows.specs.Changes.{filed, seen_in, table_verdict}
use Rattle.iris_rows.specs.FileChanges.{file_written}
use Rattle.iris_rows.specs.Rows.{Table}
use Rattle.iris_table.specs.Replies.{TableReplies}

-- ---- the checks

-- what passes them with bytes is a file, and its bytes end below the greatest length
pub record PassesWrite (here : Seen) (offset count : ℕ) : Type 0 where
  pub size : ℕ
  pub is : here ≡ AFile size
  pub bound : offset + count ≤ 268435456

pub writes_file : (here : Seen) (offset count : ℕ) (full : Bool) → 0 < count → write_checks here offset count full ≡ None → PassesWrite here offset count
writes_file here offset count full some e = by (nat_lt 262144 count) (count == 0) refl (nat_lt 268435456 (offset + count)) refl here refl e where
  by : (much empty : Bool) → (count == 0) ≡ empty → (long : Bool) → nat_lt 268435456 (offset + count) ≡ long → (s : Seen) → here ≡ s
      → then_error (error_if much TooMuch) (then_error (unresolved s) (then_error (error_if (is_directory_seen s) IsDir) (cond empty None (then_error (error_if long TooLong) (error_if full Full))))) ≡ None → PassesWrite here offset count
  by true empty q long l s is e = absurd (cc)
  by false true q long l s is e = absurd (let z : count ≡ 0 = eqb-true count 0 q in omega (arith, some, z))
  by false false q true l ADirectory is e = absurd (cc)
  by false false q true l (AFile size) is e = absurd (cc)
  by false false q true l Nothing is e = absurd (cc)
  by false false q true l AFileBefore is e = absurd (cc)
  by false false q false l ADirectory is e = absurd (cc)
  by false false q false l (AFile size) is e = record { size = size; is = is; bound = grind (arith, nat_tests) }
  by false false q false l Nothing is e = absurd (cc)
  by false false q false l AFileBefore is e = absurd (cc)

-- what the checks say of a count and an age
pub write_checked : (here : Seen) (offset count n : ℕ) (full : Bool) (age : ℕ) (r : Option PlainError) → count ≡ n → full ≡ is_full age → r ≡ write_checks here offset count full → write_checks here offset n (is_full age) ≡ r
write_checked here offset count n full age r e f is = sym (is ∙ ap (λ z. write_checks here offset z full) e ∙ ap (write_checks here offset n) f)

-- so many bytes are too many, whatever stands there
pub too_many : (here : Seen) (offset count : ℕ) (full : Bool) → 262144 < count → write_checks here offset count full ≡ Some TooMuch
too_many here offset count full lt = by (nat_lt 262144 count) (search (rules, tests)) where
  by : (b : Bool) → b ≡ true → then_error (error_if b TooMuch) (then_error (unresolved here) (then_error (error_if (is_directory_seen here) IsDir)
      (cond (count == 0) None (then_error (error_if (nat_lt 268435456 (offset + count)) TooLong) (error_if full Full))))) ≡ Some TooMuch
  by true e = refl
  by false e = absurd (cc)

module _ (order : List ℕ) (text : List ℕ) (c : Resident) (b : Paged) (k : Counters) (offset : ℕ) (bytes : List ℕ) where
  -- a text that spells no path is refused
  pub write_nowhere : (p : Planned) → p ≡ unchanged_plan (Plain BadPath) k → names_of text ≡ None → PlansFor order (Write text offset bytes) c b k p
  write_nowhere p is e = λ t s. answers_error order t c b k s (Write text offset bytes) BadPath p is tt (bad_path (names_of text) (λ names. write_checks (seen_in t names) offset (length bytes) (is_full t.age)) e)

  module _ (names : List (List ℕ)) (e : names_of text ≡ Some names) (t : Table) (s : IsShownBy order t c b k) (here : Seen) (sees : seen_in t names ≡ here) where
    write_verdict : table_verdict t (Write text offset bytes) ≡ write_checks here offset (length bytes) (is_full k.age)
    write_verdict =
        spelled_checks (names_of text) names (λ names. write_checks (seen_in t names) offset (length bytes) (is_full t.age)) e ∙ ap (λ z. write_checks z offset (length bytes) (is_full t.age)) sees
        ∙ ap (λ a. write_checks here offset (length bytes) (is_full a)) (sym s.age)

    -- a check that applies is the reply
    pub write_refused : (error : PlainError) (p : Planned) → p ≡ unchanged_plan (Plain error) k → write_checks here offset (length bytes) (is_full k.age) ≡ Some error → Fulfills order t (Write text offset bytes) c b p
    write_refused error p is applies = answers_error order t c b k s (Write text offset bytes) error p is tt (write_verdict ∙ applies)

    module _ (none : write_checks here offset (length bytes) (is_full k.age) ≡ None) where
      done : TableReplies order t (Write text offset bytes) Done
      done = accepted_replies order t (Write text offset bytes) Done tt s.sound (write_verdict ∙ none) refl

      -- no bytes change nothing
      pub nothing_written : (p : Planned) → p ≡ unchanged_plan Done k → length bytes ≡ 0 → Fulfills order t (Write text offset bytes) c b p
      nothing_written p is empty = answers_unchanged order t c b k s (Write text offset bytes) Done p is done (unchanged_after t (Write text offset bytes) Done
          (ap (λ o. by_names t o (λ names. cond (length bytes == 0) t (filed (file_written offset bytes) names t))) e ∙ ap (λ z. cond (z == 0) t (filed (file_written offset bytes) names t)) empty))

      module _ (id : FileId) (size : ℕ) (at : StandsAt order t names id size) (some : 0 < length bytes) (d : Drafted) (unset : d ≡ no_changes) (p : PageDrafted) (bare : p ≡ no_pages) where
        begun : PlanBegins order t (Write text offset bytes) d c
        begun = record { pictured = pictured_alone order t c b k s d unset; accepted = write_verdict ∙ none }

        undrafted : (n : Name) → change_of p n ≡ None
        undrafted n = ap (λ z. change_of z n) bare

        -- by what its plan says, both drafts lead to the table after it
        pub bytes_written : (made : Drafted) (q : PageDrafted) (after : Counters) → ArePagesSound b → SaysWritten id offset bytes d c made → SaysPagesWritten id offset bytes d c b p q → (AreOldsResident p b → AreOldsResident q b)
            → after.next ≡ k.next → (k.age < 2 ^ 63 → after.age ≡ k.age + 1) → Fulfills order t (Write text offset bytes) c b (record { reply = Done; draft = made; pages = q; counters = after })
        bytes_written made q after kept table pages olds next age =
            let a = at_file order t text names id size e at in
            let step = written_step t text at.i at.f a offset bytes (write_verdict ∙ none) some in
            let through = writes_change_pages order t text offset bytes at.i at.f d c b p q begun (record { kept = kept; shows = s.shows; empty = undrafted }) a some
            (subst (λ j. SaysPagesWritten j offset bytes d c b p q) at.is pages) in
            let none_old : AreOldsResident p b = λ n change h old. absurd (let z = undrafted n in cc) in
            record {
              replies = done;
              leads = record {
                drafts = writes_go_through order t text offset bytes at.i at.f d c made begun a some (subst (λ j. SaysWritten j offset bytes d c made) at.is table);
                changes = pages_change_each order t (Write text offset bytes) q b s.sound through (olds none_old);
                shows = through.shows;
                next = next ∙ s.next ∙ ap (λ (u : Table). u.next) (sym step);
                age = age (below order t c b k s).1 ∙ ap (λ i. i + 1) s.age ∙ ap (λ (u : Table). u.age) (sym step);
              };
            }

-- ---- what it lacks

module _ (keys : Keys) (c : Resident) (b : Paged) (k : Counters) (text : List ℕ) (names : List (List ℕ)) (offset : ℕ) (bytes : List ℕ) (e : names_of text ≡ Some names) (few : length bytes ≤ 262144) where
  pub write_trail : (t : Table) (n : Name) → IsOnTrail keys.order names (shown keys.order t) n → ReachesIn keys t (Write text offset bytes) n
  write_trail t n trail = on_spelled (names_of text) names (λ names. (length bytes ≤ 262144) × (IsOnTrail keys.order names (shown keys.order t) n
      ⊎ InFile (shown keys.order t) keys.order names (λ size. offset) (λ size. offset + length bytes) n)) e (few, inl trail)

  write_reached : (t : Table) (id : FileId) (size : ℕ) (n : Name) → (s : StandsAt keys.order t names id size) → 0 < length bytes
      → IsLiveOver (shown keys.order t) (id_of s.i) (offset / 4096) ((offset + length bytes - 1) / 4096 + 1) n → ReachesIn keys t (Write text offset bytes) n
  write_reached t id size n s some over =
      let end : (offset + length bytes - 1) / 4096 + 1 ≡ (offset + length bytes + 4095) / 4096 = omega arith in
      on_spelled (names_of text) names (λ names. (length bytes ≤ 262144) × (IsOnTrail keys.order names (shown keys.order t) n
      ⊎ InFile (shown keys.order t) keys.order names (λ size. offset) (λ size. offset + length bytes) n)) e (
        few,
        inr (record {
          id = id_of s.i;
          size = size;
          at = s.at;
          some = omega (arith, some);
          over = subst (λ z. IsLiveOver (shown keys.order t) (id_of s.i) (offset / 4096) z n) end over;
        }),
      )

  pub write_short : (d : Drafted) (id : FileId) (size : ℕ) (x : Short) → d ≡ no_changes → ((t : Table) → IsShownBy keys.order t c b k → StandsAt keys.order t names id size) → 0 < length bytes
      → IsPageShort d c b id (offset / 4096) ((offset + length bytes - 1) / 4096 + 1) x → IsPlanShort keys (Write text offset bytes) c b k x
  write_short d id size NoMemory empty stands some short = tt
  write_short d id size (Need n x) empty stands some lacks = λ t shows.
      let s = stands t shows in
      page_needed keys (Write text offset bytes) c b k d empty t s.i s.f (offset / 4096) ((offset + length bytes - 1) / 4096 + 1) n x shows s.stands (write_reached t id size n s some)
      (subst (λ j. LacksPage d c b j (offset / 4096) ((offset + length bytes - 1) / 4096 + 1) n x) s.is lacks)
