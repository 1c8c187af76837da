-- A page that a get brings is the block's, and goes among the resident blocks where its name is absent and untouched.
use Rattle.std.proofs.Common.{◌≡◌, ℕ, ◌∷◌, List, [], length, take, Bool, true, false, cond, Option, Some, None, refl, sym, ◌∙◌, ap, subst, arith}
use Rattle.std.specs.Map.{lookup}
use Rattle.std.proofs.lemmas.List.{length-append, take_at}
use Rattle.sha2.proofs.Facts256.{length-sha256}
use Rattle.iris_blocks.specs.declared.held.PageHeld.{PageHeld}
use Rattle.iris_blocks.specs.Held.{newcomer_page}
use Rattle.iris_blocks.specs.Paged.{held_page}
use Rattle.iris_cache.proofs.Keeping.{alike-keeps}
use Rattle.iris_desk.specs.AtDesks.{asked_by, out_of}
use Rattle.iris_desk.specs.declared.out.Out as pending
use Rattle.iris_file_rules.specs.FileTable.{files, stored_version}
use Rattle.iris_file_rules.specs.Rules.{file_rules, files_after, shown_after, LegalFiles}
use Rattle.iris_file_rules.proofs.FileRecords.{spells}
use Rattle.iris_file_rules.proofs.OneBlock.{shown_block, sound}
use Rattle.iris_history.specs.StatusLaws.{got}
use Rattle.iris_invariant.specs.Agrees.{IsTrueOf, Out}
use Rattle.iris_invariant.specs.Events.{Brought}
use Rattle.iris_jobs.specs.declared.job.Brought.TheVariants as brought
use Rattle.iris_jobs.specs.Jobs.{JobState, IsReadAs, IsRecordFor, get_task, got_note}
use Rattle.iris_mac.specs.declared.keys.Keys.{Keys}
use Rattle.iris_name.specs.declared.name.FileId.{FileId}
use Rattle.iris_name.specs.declared.name.Name.{Name}
use Rattle.iris_name.specs.declared.name.Name.TheVariants.{Block}
use Rattle.iris_name.specs.declared.note.Answer.TheVariants.{Absent, Given, Failed}
use Rattle.iris_name.specs.declared.note.Expect.{Expect}
use Rattle.iris_name.specs.declared.note.Expect.TheVariants.{Hash, Version}
use Rattle.iris_name.specs.History.{Past}
use Rattle.iris_name.specs.Hmac.{Passes, block_key, hmac, record_of, tag}
use Rattle.iris_name.specs.Names.{same_name}
use Rattle.iris_name.specs.NameLaws.{same_name-true}
use Rattle.iris_node.specs.Trees.{Shown}
use Rattle.iris_node.specs.Unfolded.{Unfolded, Stored}
use Rattle.iris_pool.specs.Pool.{PoolState, IsAbsentIn}
use Rattle.iris_pool.specs.View.{out_seen}
use Rattle.iris_pool.proofs.OutSeen.{asked_for, seen_out}
use Rattle.iris_records.specs.Records.{spelled}
use Rattle.iris_standing.specs.GetsKept as l
use Rattle.iris_standing.specs.GetsKept.{PageKept}
use Rattle.iris_standing.specs.Standing.{Standing, AgreesWith, StandsFor, standing_view, with_pool}
use Rattle.iris_standing.specs.Transfers.{IsGetOut}
use Rattle.iris_standing.proofs.CarriedOver.{same_nodes, settled_alike, shows_alike}
use Rattle.iris_standing.proofs.RightAnswers.{IsTold, ShowsTable, kept_right, record_passed}
use Rattle.iris_standing.proofs.SeenTransfers.{seen_as, out_is, cell_is, since_is, get_seen}

-- ---- the block of a record

length_tag : (key : List ℕ) (file place version : ℕ) (page : List ℕ) → length (tag key file place version page) ≡ 32
unfolding tag hmac
length_tag key file place version page = length-sha256 _

-- a record that passes has its block first
page_of : (key : List ℕ) (file place version : ℕ) (page : List ℕ) → length (record_of key file place version page) ≡ 4128 → take 4096 (record_of key file place version page) ≡ page
page_of key file place version page len = take_at page (tag key file place version page) 4096 (omega (arith, len, length-append page (tag key file place version page), length_tag key file place version page))

-- What bytes are read as: a page in a version.
record IsPageRead (keys : Keys) (n : Name) (u : Unfolded) (bytes : List ℕ) (version : ℕ) (page : List ℕ) : Type 0 where
  is_version : version ≡ stored_version u
  is_page : page ≡ take 4096 bytes

page_read : (keys : Keys) (n : Name) (x : Expect) (u : Unfolded) (bytes : List ℕ) (version : ℕ) (page : List ℕ) → IsReadAs n x bytes (brought.Page version page) → IsTrueOf (files keys) n x (Some u) → IsPageRead keys n u bytes version page
page_read keys n (Hash y) u bytes version page r told = absurd r
page_read keys n (Version v) u bytes version page r told = record { is_version = r.0 ∙ told.1; is_page = r.1 }

-- so it is the block that stands there
page_is : (keys : Keys) (past : Past) (file : FileId) (place : ℕ) (u : Unfolded) (bytes : List ℕ) (version : ℕ) (page : List ℕ) → LegalFiles keys past → shown_after keys past (Block file place) ≡ Some u
    → bytes ≡ spelled keys.block (Block file place) u → IsPageRead keys (Block file place) u bytes version page → u ≡ Stored version page
page_is keys past file place u bytes version page legal live is read =
    let b = shown_block keys.order (files_after keys past) file place u (sound keys past).hand live in
    let v : ℕ = b.file.version place in
    let block : List ℕ = b.file.block place in
    let passes = subst (λ z. Passes keys.block file.0 place (stored_version z) (spelled keys.block (Block file place) z)) b.is ((spells keys (file_rules keys)).block past file place u legal live) in
    let same_page : page ≡ block = read.is_page ∙ (ap (λ z. take 4096 z) (is ∙ ap (λ z. spelled keys.block (Block file place) z) b.is) ∙ page_of keys.block file.0 place v block passes.0) in
    let same_version : version ≡ v = read.is_version ∙ ap stored_version b.is in
    b.is ∙ (ap (λ z. Stored z block) (sym same_version) ∙ ap (λ z. Stored version z) (sym same_page))

-- ---- what is resident then

come_shown : (t : Shown) (n m : Name) (b : Bool) (version : ℕ) (page : List ℕ) (who : ℕ) (o : Option PageHeld) → same_name n m ≡ b → t n ≡ Some (Stored version page) → ((h : PageHeld) → o ≡ Some h → t m ≡ Some (Stored h.version h.page))
    → (g : PageHeld) → cond b (Some (newcomer_page version page who)) o ≡ Some g → t m ≡ Some (Stored g.version g.page)
come_shown t n m true version page who o e live f g at = let z : newcomer_page version page who ≡ g = cc in
    subst (λ (x : PageHeld). t m ≡ Some (Stored x.version x.page)) z (ap t (sym (same_name-true n m e)) ∙ live)
come_shown t n m false version page who o e live f g at = f g at

module _ (opened : ℕ) (past : Past) (s : Standing) (p : PoolState) (job : JobState) (o : pending.Out) (bytes : List ℕ) (file : FileId) (place version : ℕ) (page : List ℕ) (is : IsGetOut s job o) (own : job.name ≡ Block file place)
    (read : IsReadAs job.name job.expect bytes (brought.Page version page)) (kept : PageKept s.pool p job.who file place version page) where
  abbrev n : Name
  n = Block file place

  abbrev out_as : Out
  out_as = seen_as s job.who o

  at_desk : out_of s.pool.desks n ≡ Some (job.who, o)
  at_desk = subst (λ m. out_of s.pool.desks m ≡ Some (job.who, o)) own is.out.out

  seen_there : out_seen [] s.pool.desks n ≡ Some (asked_for [] (asked_by s.pool.desks job.who) (job.who, o))
  seen_there = seen_out [] s.pool.desks n job.who o at_desk

  read_there : IsReadAs n job.expect bytes (brought.Page version page)
  read_there = subst (λ m. IsReadAs m job.expect bytes (brought.Page version page)) own read

  -- the same is held, where the block is resident or touched
  stays : (IsAbsentIn s.pool n → o.touched ≡ true) → AgreesWith opened past s → ShowsTable s past p
  stays f h = let alike = kept.stays (asked_for [] (asked_by s.pool.desks job.who) (job.who, o)) seen_there f in record {
    pictures = alike-keeps (shown_after s.keys past) s.pool.nodes p.nodes h.shows.pictures alike.nodes;
    shows = shows_alike (shown_after s.keys past) s.pool p alike h.shows.shows;
    settled = settled_alike s.pool p alike h.settled;
  }

  -- and else the page comes
  comes : IsTold s past n job.expect out_as bytes → LegalFiles s.keys past → held_page s.pool.pages n ≡ None → o.touched ≡ false → AgreesWith opened past s → ShowsTable s past p
  comes told legal absent untouched h =
      let c = kept.comes (asked_for [] (asked_by s.pool.desks job.who) (job.who, o)) absent seen_there untouched in
      let live = told.now untouched in
      let block = page_is s.keys past file place told.u bytes version page legal live told.is (page_read s.keys n job.expect told.u bytes version page read_there told.expected) in
      record {
        pictures = alike-keeps (shown_after s.keys past) s.pool.nodes p.nodes h.shows.pictures (same_nodes s.pool p kept.nodes);
        shows = λ m g z. come_shown (shown_after s.keys past) n m (same_name n m) version page job.who (held_page s.pool.pages m) refl (live ∙ ap Some block) (h.shows.shows m) g (sym (c m) ∙ z);
        settled = λ m g z. h.settled m g (ap (λ l. lookup (same_name m) l) (sym kept.nodes) ∙ z);
      }

  shown_then : IsTold s past n job.expect out_as bytes → LegalFiles s.keys past → AgreesWith opened past s → ShowsTable s past p
  shown_then told legal h = by (held_page s.pool.pages n) refl o.touched refl where
    by : (z : Option PageHeld) → held_page s.pool.pages n ≡ z → (t : Bool) → o.touched ≡ t → ShowsTable s past p
    by None absent false untouched = comes told legal absent untouched h
    by None absent true touched = stays (λ _. touched) h
    by (Some g) at t e = stays (λ absent. absurd (let z : None ≡ Some g = sym absent ∙ at in cc)) h

  brought_so : Brought n out_as (standing_view s) (standing_view (with_pool p s))
  brought_so = kept.brought s.keys.block out_as (subst (λ m. out_seen s.keys.block s.pool.desks m ≡ Some out_as) own (out_is s job.who (get_task job) o is.out))

  pub page_kept : IsRecordFor (block_key job.master) job.name job.expect bytes → StandsFor opened past s → StandsFor opened (record { note = got_note job (Given bytes); opened = opened } ∷ past) (with_pool p s)
  page_kept passes stands =
      let pass = record_passed s.keys n job.expect bytes (subst (λ m. IsRecordFor s.keys.block m job.expect bytes) own (subst (λ key. IsRecordFor key job.name job.expect bytes) is.key passes)) in
      subst (λ m. StandsFor opened (got opened job.who job.since m (Given bytes) ∷ past) (with_pool p s)) (sym own)
      (subst (λ since. StandsFor opened (got opened job.who since n (Given bytes) ∷ past) (with_pool p s)) (since_is s job.who (get_task job) o is.out)
      (kept_right opened past s p n out_as job.expect bytes (subst (λ m. ((standing_view s).cell m).out ≡ Some out_as) own (cell_is s job.who (get_task job) o is.out)) (get_seen s job o is) shown_then pass brought_so stands))

no_page : (version : ℕ) (page : List ℕ) → brought.Page version page ≡ brought.Nothing → ⊥
no_page version page e = cc

pub pages_are_kept : l.PagesAreKept
pages_are_kept opened past s p job o Absent file place version page is own brings kept stands = absurd (no_page version page brings)
pages_are_kept opened past s p job o Failed file place version page is own brings kept stands = absurd (no_page version page brings)
pages_are_kept opened past s p job o (Given bytes) file place version page is own brings kept stands = page_kept opened past s p job o bytes file place version page is own brings.1 kept brings.0 stands
