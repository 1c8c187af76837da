-- A new length of a file at a path is planned as the table makes it.
use Rattle.std.proofs.Common.{◌≡◌, ◌≢◌, ◌⊎◌, ◌+◌, ◌-◌, ◌/◌, ◌≤◌, ◌<◌, ◌^◌, ◌&&◌, ℕ, List, Bool, true, false, cond, Option, Some, None, refl, sym, ◌∙◌, ap, subst, inl, inr, arith}
use Rattle.std.specs.Prelude.{◌==◌, nat_lt}
use Rattle.std.proofs.lemmas.Bool.{cases_lt, eq-eqb}
use Rattle.std.proofs.lemmas.Bool.Decides.{nat_tests}
use Rattle.iris_blocks.specs.declared.draft.PageChange.{PageChange}
use Rattle.iris_blocks.specs.Changes.{PageDrafted, change_of}
use Rattle.iris_blocks.specs.Paged.{Paged, ArePagesSound, IsBlock, held_page}
use Rattle.iris_cache.specs.declared.held.Short.{Short}
use Rattle.iris_cache.specs.declared.held.Short.TheVariants.{Need, NoMemory}
use Rattle.iris_cache.specs.Drafted.{Drafted}
use Rattle.iris_cache.specs.Resident.{Resident}
use Rattle.iris_file_rules.specs.Reach.{IsCutBlock, IsReachedByCut, IsResized}
use Rattle.iris_files.specs.Cuts.{IsResizeShort, LacksCutPart, page_cut, versions_cut}
use Rattle.iris_files.specs.Pages.{AreOldsResident, LacksBlock, is_block_in, place_of}
use Rattle.iris_files.specs.Refiles.{Filed}
use Rattle.iris_forest.specs.Places.{IsTableFile}
use Rattle.iris_forest.proofs.NodesAreFormed.{stands_tree}
use Rattle.iris_forest.proofs.VersionsOfFile.{files_stand}
use Rattle.iris_mac.specs.declared.keys.Keys.{Keys}
use Rattle.iris_name.specs.declared.name.FileId.{FileId}
use Rattle.iris_name.specs.declared.name.Name.{Name}
use Rattle.iris_name.specs.declared.name.Name.TheVariants.{Entry, Part, Block}
use Rattle.iris_name.specs.declared.note.Expect.{Expect}
use Rattle.iris_name.specs.declared.request.PlainError.{PlainError}
use Rattle.iris_name.specs.declared.request.PlainError.TheVariants.{BadPath, IsDir, TooMuch, TooLong, Full}
use Rattle.iris_name.specs.declared.request.Reply.TheVariants.{Done, Plain}
use Rattle.iris_name.specs.declared.request.Request.TheVariants.{Resize}
use Rattle.iris_name.specs.Paths.{names_of}
use Rattle.iris_node.specs.Trees.{Shown, IsTree}
use Rattle.iris_node.specs.Unfolded.{id_of}
use Rattle.iris_paths.specs.Pictured.{IsOnTrail}
use Rattle.iris_plain.specs.Checks.{blocks_of, error_if, then_error, unresolved, is_directory_seen, is_full, resize_checks, size_of}
use Rattle.iris_plain.specs.declared.checks.Seen.{Seen}
use Rattle.iris_plain.specs.declared.checks.Seen.TheVariants.{ADirectory, AFile, Nothing, AFileBefore}
use Rattle.iris_plain.specs.Steps.{by_names}
use Rattle.iris_plan_laws.specs.Begun.{IsAtFile, PlanBegins}
use Rattle.iris_plan_laws.specs.FileChanges.{SaysResized, emptied_past}
use Rattle.iris_plan_laws.specs.PageChanges.{SaysPagesResized}
use Rattle.iris_plan_laws.proofs.AcceptedRequests.{resized_step}
use Rattle.iris_plan_laws.proofs.ChangedFile.{resizes_go_through, same_length}
use Rattle.iris_plan_laws.proofs.CutBetween.{between_is_sound}
use Rattle.iris_plan_laws.proofs.FileById.{files_refiled}
use Rattle.iris_plan_laws.proofs.PagesOfSteps.{resizes_change_pages}
use Rattle.iris_records.specs.Shown.{shown}
use Rattle.iris_requests.specs.declared.planned.Counters.{Counters}
use Rattle.iris_requests.specs.declared.planned.Planned.{Planned}
use Rattle.iris_requests.specs.Needed.{IsNeeded, IsPlanShort, ReachesIn}
use Rattle.iris_requests.specs.Planned.{IsShownBy, Fulfills, PlansFor}
use Rattle.iris_requests.proofs.Answered.{answers_error, answers_unchanged, unchanged_plan}
use Rattle.iris_plan_laws.proofs.ChangedPages.{pages_change_each}
use Rattle.iris_requests.proofs.FileAtPath.{StandsAt, at_file}
use Rattle.iris_requests.proofs.NeededNames.{block_needed, node_needed}
use Rattle.iris_requests.proofs.NewRows.{below}
use Rattle.iris_requests.proofs.Replies.{accepted_replies, bad_path, spelled_checks, on_spelled, unchanged_after}
use Rattle.iris_requests.proofs.ShownTables.{no_changes, no_pages, pictured_alone, file_pictured}
use Rattle.iris_rows.specs.Changes.{emptied, filed, seen_in, table_verdict}
use Rattle.iris_rows.specs.FileChanges.{cut}
use Rattle.iris_rows.specs.Rows.{File, Table, met}
use Rattle.iris_rows.specs.Sound.{IsSound}
use Rattle.iris_rows.proofs.SoundStep.{sound_kept}
use Rattle.iris_table.specs.Replies.{TableReplies}
use Rattle.iris_version_tree.specs.Needs.{IsPartOver}
use Rattle.iris_version_tree.specs.Versions.{Reversions}

-- ---- the checks

-- what passes them is a file, and the length no greater than any
pub record PassesResize (here : Seen) (size : ℕ) : Type 0 where
  pub old : ℕ
  pub is : here ≡ AFile old
  pub bound : size ≤ 268435456

pub resizes_file : (here : Seen) (size : ℕ) (full : Bool) → resize_checks here size full ≡ None → PassesResize here size
resizes_file here size full e = by (nat_lt 268435456 size) refl here refl e where
  by : (long : Bool) → nat_lt 268435456 size ≡ long → (s : Seen) → here ≡ s
      → then_error (unresolved s) (then_error (error_if (is_directory_seen s) IsDir) (then_error (error_if long TooLong)
      (cond (size == size_of s) None (then_error (error_if (nat_lt 0 size && nat_lt (blocks_of size + 64) (blocks_of (size_of s))) TooMuch) (error_if full Full))))) ≡ None → PassesResize here size
  by true l ADirectory is e = absurd (cc)
  by true l (AFile old) is e = absurd (cc)
  by true l Nothing is e = absurd (cc)
  by true l AFileBefore is e = absurd (cc)
  by false l ADirectory is e = absurd (cc)
  by false l (AFile old) is e = record { old = old; is = is; bound = grind (arith, nat_tests) }
  by false l Nothing is e = absurd (cc)
  by false l AFileBefore is e = absurd (cc)

-- what the checks say of an age
pub resize_checked : (here : Seen) (size : ℕ) (full : Bool) (age : ℕ) (r : Option PlainError) → full ≡ is_full age → r ≡ resize_checks here size full → resize_checks here size (is_full age) ≡ r
resize_checked here size full age r f is = sym (is ∙ ap (resize_checks here size) f)

-- ---- the table in the midst of a cut

pub record Between (order : List ℕ) (t : Table) (i size : ℕ) (f : File) : Type 0 where
  pub mid : Shown
  pub tree : IsTree mid
  pub reversed : Reversions (shown order t) mid (id_of i) (versions_cut size f)

between : (order : List ℕ) (t : Table) (text : List ℕ) (size i : ℕ) (f : File) → IsSound t → (a : IsAtFile t text i f) → table_verdict t (Resize text size) ≡ None → 0 < size → f.size ≢ size
    → IsTableFile t i f → Between order t i size f
between order t text size i f s a accepted some other stands =
    let v = subst IsSound (resized_step t text i f a size accepted some other) (sound_kept t (Resize text size) s) in
    let w = between_is_sound t a.names size s v in
    let u = filed (emptied_past size) a.names t in
    record {
      mid = shown order u;
      tree = stands_tree order u w;
      reversed = same_length (shown order t) (shown order u) i f (versions_cut size f) (stands_tree order t s) (stands_tree order u w) (files_stand order t i f s stands)
          (files_refiled order t (emptied_past size) a.names i f a.inside s w a.leads);
    }

module _ (order : List ℕ) (text : List ℕ) (c : Resident) (b : Paged) (k : Counters) (size : ℕ) (some : 0 < size) where
  -- a text that spells no path is refused
  pub resize_nowhere : (p : Planned) → p ≡ unchanged_plan (Plain BadPath) k → names_of text ≡ None → PlansFor order (Resize text size) c b k p
  resize_nowhere p is e = λ t s. answers_error order t c b k s (Resize text size) BadPath p is some (bad_path (names_of text) (λ names. resize_checks (seen_in t names) size (is_full t.age)) e)

  module _ (names : List (List ℕ)) (e : names_of text ≡ Some names) (t : Table) (s : IsShownBy order t c b k) (here : Seen) (sees : seen_in t names ≡ here) where
    pub resize_verdict : table_verdict t (Resize text size) ≡ resize_checks here size (is_full k.age)
    resize_verdict =
        spelled_checks (names_of text) names (λ names. resize_checks (seen_in t names) size (is_full t.age)) e ∙ ap (λ z. resize_checks z size (is_full t.age)) sees
        ∙ ap (λ a. resize_checks here size (is_full a)) (sym s.age)

    -- a check that applies is the reply
    pub resize_refused : (error : PlainError) (p : Planned) → p ≡ unchanged_plan (Plain error) k → resize_checks here size (is_full k.age) ≡ Some error → Fulfills order t (Resize text size) c b p
    resize_refused error p is applies = answers_error order t c b k s (Resize text size) error p is some (resize_verdict ∙ applies)

    module _ (none : resize_checks here size (is_full k.age) ≡ None) where
      done : TableReplies order t (Resize text size) Done
      done = accepted_replies order t (Resize text size) Done some s.sound (resize_verdict ∙ none) refl

      -- the same length changes nothing
      pub nothing_resized : (p : Planned) → p ≡ unchanged_plan Done k → size ≡ size_of here → Fulfills order t (Resize text size) c b p
      nothing_resized p is same = answers_unchanged order t c b k s (Resize text size) Done p is done (unchanged_after t (Resize text size) Done
          (ap (λ o. by_names t o (λ names. cond (size == size_of (seen_in t names)) t (cond (size == 0) (emptied names t (met t names)) (filed (cut size) names t)))) e
          ∙ ap (λ z. cond (size == size_of z) t (cond (size == 0) (emptied names t (met t names)) (filed (cut size) names t))) sees
          ∙ ap (λ z. cond z t (cond (size == 0) (emptied names t (met t names)) (filed (cut size) names t))) (eq-eqb size (size_of here) same)))

      module _ (id : FileId) (old : ℕ) (at : StandsAt order t names id old) (other : old ≢ size) (d : Drafted) (unset : d ≡ no_changes) (p : PageDrafted) (bare : p ≡ no_pages) where
        begun : PlanBegins order t (Resize text size) d c
        begun = record { pictured = pictured_alone order t c b k s d unset; accepted = resize_verdict ∙ none }

        there : Filed (shown order t) (shown order t) id at.f d c
        there = subst (λ j. Filed (shown order t) (shown order t) j at.f d c) (sym at.is) (file_pictured order t c b k s d unset at.i at.f at.stands)

        undrafted : (n : Name) → change_of p n ≡ None
        undrafted n = ap (λ z. change_of z n) bare

        differs : at.f.size ≢ size
        differs q = other (sym at.sized ∙ q)

        -- by what its plan says, both drafts lead to the table after it
        pub length_changed : (made : Drafted) (q : PageDrafted) (after : Counters) → ArePagesSound b → SaysResized id size d c made → SaysPagesResized id size d c b p q → (AreOldsResident p b → AreOldsResident q b)
            → after.next ≡ k.next → (k.age < 2 ^ 63 → after.age ≡ k.age + 1) → Fulfills order t (Resize text size) c b (record { reply = Done; draft = made; pages = q; counters = after })
        length_changed made q after kept table pages olds next age =
            let a = at_file order t text names id old e at in
            let step = resized_step t text at.i at.f a size (resize_verdict ∙ none) some differs in
            let through = resizes_change_pages order t text size at.i at.f d c b p q begun (record { kept = kept; shows = s.shows; empty = undrafted }) a some
            (subst (λ j. SaysPagesResized j size d c b p q) at.is pages) in
            let none_old : AreOldsResident p b = λ n change h old. absurd (let z = undrafted n in cc) in
            record {
              replies = done;
              leads = record {
                drafts = resizes_go_through order t text size at.i at.f d c made begun a some differs (subst (λ j. SaysResized j size d c made) at.is table);
                changes = pages_change_each order t (Resize text size) q b s.sound through (olds none_old);
                shows = through.shows;
                next = next ∙ s.next ∙ ap (λ (u : Table). u.next) (sym step);
                age = age (below order t c b k s).1 ∙ ap (λ i. i + 1) s.age ∙ ap (λ (u : Table). u.age) (sym step);
              };
            }

-- ---- what it lacks

-- over the places from the one in which a lesser length ends, the parts are reached that a cut reaches, and the blocks
cut_part : (file : FileId) (size old : ℕ) (n : Name) → 0 < size → IsPartOver file (size / 4096) (blocks_of old) n → IsPartOver file (blocks_of size - 1) (blocks_of old) n
cut_part file size old (Entry i) some over = over
cut_part file size old (Part g l i) some over = (over.0, record { place = over.1.place; from = (let h = over.1.from in omega (arith, h, some)); to = over.1.to; under = over.1.under })
cut_part file size old (Block g p) some over = over

cut_block : (file : FileId) (size old place : ℕ) → size / 4096 ≤ place → place < blocks_of old → IsCutBlock file old size (Block file place)
cut_block file size old place from to = elim (cases_lt place (blocks_of size)) [
  | inl kept ↦ inr (omega (arith, from, kept), (refl, omega (arith, from, kept), kept))
  | inr past ↦ inl (refl, past, to)
]

module _ (keys : Keys) (c : Resident) (b : Paged) (k : Counters) (text : List ℕ) (names : List (List ℕ)) (size : ℕ) (e : names_of text ≡ Some names) (some : 0 < size) (d : Drafted) (empty : d ≡ no_changes) where
  pub resize_trail : (t : Table) (n : Name) → IsOnTrail keys.order names (shown keys.order t) n → ReachesIn keys t (Resize text size) n
  resize_trail t n trail = on_spelled (names_of text) names (λ names. IsOnTrail keys.order names (shown keys.order t) n ⊎ IsResized (shown keys.order t) keys.order (is_full t.age) names size n) e (inl trail)

  resize_reached : (t : Table) (id : FileId) (old : ℕ) (n : Name) → (s : StandsAt keys.order t names id old) → size < old → IsReachedByCut (shown keys.order t) (is_full t.age) (id_of s.i) old size n → ReachesIn keys t (Resize text size) n
  resize_reached t id old n s shorter reached =
      on_spelled (names_of text) names (λ names. IsOnTrail keys.order names (shown keys.order t) n ⊎ IsResized (shown keys.order t) keys.order (is_full t.age) names size n) e
      (inr (record { id = id_of s.i; old = old; at = s.at; shorter = shorter; met = inl (some, reached) }))

  module _ (t : Table) (s : IsShownBy keys.order t c b k) (id : FileId) (old : ℕ) (at : StandsAt keys.order t names id old) (sees : seen_in t names ≡ AFile old)
      (none : resize_checks (AFile old) size (is_full k.age) ≡ None) (shorter : size < old) where
    none_here : resize_checks (AFile old) size (is_full t.age) ≡ None
    none_here = ap (λ a. resize_checks (AFile old) size (is_full a)) (sym s.age) ∙ none

    part_needed : (n : Name) (x : Expect) → LacksCutPart d c (id_of at.i) size (size / 4096) (blocks_of old) n x → IsNeeded keys t (Resize text size) c b n x
    part_needed n x lacks =
        let a = at_file keys.order t text names id old e at in
        let sized = at.sized in
        let m = between keys.order t text size at.i at.f s.sound a (resize_verdict keys.order text c b k size some names e t s (AFile old) sees ∙ none) some (λ q. omega (arith, q, sized, shorter)) at.stands in
        let needed = lacks.1.needed (shown keys.order t) (shown keys.order t) (m.mid, at.f) (file_pictured keys.order t c b k s d empty at.i at.f at.stands, m.tree, m.reversed) in
        node_needed keys t (Resize text size) c b n x s.sound (resize_reached t id old n at shorter (needed.1.live, inl (cut_part (id_of at.i) size old n some lacks.0))) lacks.1.absent needed.1

    cut_needed : (n : Name) (x : Expect) → LacksBlock d c b (id_of at.i) (size / 4096) (blocks_of old) n x → IsNeeded keys t (Resize text size) c b n x
    cut_needed n x block =
        let needed = block.needed (shown keys.order t) (shown keys.order t) at.f (file_pictured keys.order t c b k s d empty at.i at.f at.stands) in
        subst (λ m. IsNeeded keys t (Resize text size) c b m x) (sym block.named)
        (subst (IsNeeded keys t (Resize text size) c b (Block (id_of at.i) block.place)) (sym needed.1)
        (block_needed keys t (Resize text size) c b at.i at.f block.place s.sound at.stands needed.0 (subst (λ m. held_page b m ≡ None) block.named block.absent)
        (λ live. resize_reached t id old (Block (id_of at.i) block.place) at shorter (live, inr (none_here, cut_block (id_of at.i) size old block.place block.from block.to)))))

  -- a longer file asks for nothing, and a shorter one for what a cut reaches
  pub resize_short : (id : FileId) (old : ℕ) (x : Short) → ((t : Table) → IsShownBy keys.order t c b k → StandsAt keys.order t names id old × (seen_in t names ≡ AFile old)) → resize_checks (AFile old) size (is_full k.age) ≡ None
      → ((t : Table) (f : File) → Filed (shown keys.order t) (shown keys.order t) id f d c → IsResizeShort d c b id size (size / 4096) (blocks_of f.size) x × (f.size ≤ size → x ≡ NoMemory)) → IsPlanShort keys (Resize text size) c b k x
  resize_short id old NoMemory stands none short = tt
  resize_short id old (Need n x) stands none short = λ t s.
      let w = stands t s in
      let at = w.0 in
      let lacks = short t at.f (subst (λ j. Filed (shown keys.order t) (shown keys.order t) j at.f d c) (sym at.is) (file_pictured keys.order t c b k s d empty at.i at.f at.stands)) in
      let shorter : size < old = elim (cases_lt size old) [ inl less ↦ less | inr more ↦ absurd (let sized = at.sized in let q = lacks.1 (omega (arith, sized, more)) in cc) ] in
      let here = subst (λ j. IsResizeShort d c b j size (size / 4096) (blocks_of old) (Need n x)) at.is
      (subst (λ z. IsResizeShort d c b id size (size / 4096) (blocks_of z) (Need n x)) at.sized lacks.0) in
      elim here [ inl part ↦ part_needed t s id old at w.1 none shorter n x part | inr block ↦ cut_needed t s id old at w.1 none shorter n x block ]
