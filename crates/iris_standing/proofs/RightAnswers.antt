-- An answer that passes its check is the record, or makes the history bad: what agreed agrees then, where the pool shows the table.
use Rattle.std.proofs.Common.{◌≡◌, inl, inr, ◌+◌, ℕ, ◌∷◌, List, Bool, true, false, Some, refl, sym, ◌∙◌, ap, subst, true≢false}
use Rattle.iris_blocks.specs.Paged.{Shows}
use Rattle.iris_cache.specs.Pictures.{Pictures}
use Rattle.iris_file_rules.specs.FileTable.{files}
use Rattle.iris_file_rules.specs.Rules.{file_rules, shown_after, LegalFiles}
use Rattle.iris_file_rules.proofs.FileRecords.{spells}
use Rattle.iris_file_rules.proofs.OneBlock.{one}
use Rattle.iris_history.specs.Kept.{shown_in}
use Rattle.iris_history.specs.Legal.{IsLawful}
use Rattle.iris_history.specs.StatusLaws.{got}
use Rattle.iris_invariant.specs.Agrees.{Agrees, Getting, Gets, Going, IsTrueOf, Out, StaysRight, WasRight, is_challenge}
use Rattle.iris_invariant.specs.Events.{Brings, Pinned, Inserted, Passed, Brought}
use Rattle.iris_invariant.specs.Agrees.{Cell}
use Rattle.iris_invariant.specs.Readings.{PassesCheck}
use Rattle.iris_invariant.proofs.Bounds.{others_mark_nothing}
use Rattle.iris_invariant.proofs.Ends.{begun_then}
use Rattle.iris_invariant.proofs.EventLaws.{fruitful_gets_keep}
use Rattle.iris_invariant.proofs.ParentLaws.{parents_stay, evidence_stays}
use Rattle.iris_invariant.proofs.Readings.{stood, stands, passed_right}
use Rattle.iris_jobs.specs.Jobs.{IsRecordFor}
use Rattle.iris_mac.specs.declared.keys.Keys.{Keys}
use Rattle.iris_name.specs.declared.name.Name.{Name}
use Rattle.iris_name.specs.declared.name.Name.TheVariants.{Entry, Part, Block}
use Rattle.iris_name.specs.declared.note.Answer.TheVariants.{Given}
use Rattle.iris_name.specs.declared.note.Expect.{Expect}
use Rattle.iris_name.specs.declared.note.Expect.TheVariants.{Hash, Version}
use Rattle.iris_name.specs.History.{Past, Stamped, begun, oldest}
use Rattle.iris_node.specs.Spelling.{SpellsNode}
use Rattle.iris_node.specs.Unfolded.{Unfolded}
use Rattle.iris_pool.specs.Pool.{PoolState}
use Rattle.iris_records.specs.Records.{spelled}
use Rattle.iris_standing.specs.Standing.{Standing, AgreesWith, StandsFor, leads_to, standing_view, with_pool}
use Rattle.iris_standing.proofs.CarriedOver.{AreSettled, carried_over}

-- a record for what is expected passes the invariant's check
pub record_passed : (keys : Keys) (n : Name) (x : Expect) (bytes : List ℕ) → IsRecordFor keys.block n x bytes → PassesCheck (files keys) SpellsNode n x bytes
record_passed keys n (Hash h) bytes p = p
record_passed keys (Block f q) (Version v) bytes p = p
record_passed keys (Entry i) (Version v) bytes p = p
record_passed keys (Part f l i) (Version v) bytes p = p

-- what is resident stays so
stays_resident : (who : ℕ) (touched : Bool) (c c' : Cell) (pinned pinned' : ℕ → Bool) → Brings who touched c c' pinned pinned' → c.resident ≡ true → c'.resident ≡ true
stays_resident who touched c c' pinned pinned' (Pinned was is s p others) r = is
stays_resident who touched c c' pinned pinned' (Inserted was t is s p) r = absurd (true≢false (sym r ∙ was))
stays_resident who touched c c' pinned pinned' (Passed was t is) r = absurd (true≢false (sym r ∙ was))

-- What a get that is out says of the record that it is to bring: what the name stood for then, and stands for now if untouched.
pub record IsTold (s : Standing) (past : Past) (n : Name) (x : Expect) (o : Out) (bytes : List ℕ) : Type 0 where
  pub u : Unfolded
  pub is : bytes ≡ spelled s.keys.block n u
  pub now : o.touched ≡ false → shown_after s.keys past n ≡ Some u
  pub expected : IsTrueOf (files s.keys) n x (Some u)

-- a pool that shows the table
pub record ShowsTable (s : Standing) (past : Past) (p : PoolState) : Type 0 where
  pub pictures : Pictures (shown_after s.keys past) p.nodes
  pub shows : Shows (shown_after s.keys past) p.pages
  pub settled : AreSettled p.nodes

module _ (opened : ℕ) (past : Past) (s : Standing) (p : PoolState) (n : Name) (o : Out) (x : Expect) (bytes : List ℕ) (out : ((standing_view s).cell n).out ≡ Some o) (d : o.doing ≡ Getting x) where
  abbrev note : Stamped
  note = got opened o.who o.since n (Given bytes)

  going : AgreesWith opened past s → Going (files s.keys) (file_rules s.keys) opened n past ((standing_view s).cell n) o
  going h = h.agrees.outs n o out

  -- it is a get's
  pub gets_now : AgreesWith opened past s → Gets (files s.keys) n past (is_challenge o.request n) ((standing_view s).cell n) o.touched
  gets_now h = subst (StaysRight (files s.keys) n past (is_challenge o.request n) ((standing_view s).cell n) o.touched) d (going h).now

  first : AgreesWith opened past s → WasRight (files s.keys) (file_rules s.keys) n o.request o.crowded (Getting x) (oldest (opened + o.since) past)
  first h = subst (λ z. WasRight (files s.keys) (file_rules s.keys) n o.request o.crowded z (oldest (opened + o.since) past)) d (going h).first

  -- what its name stood for
  abbrev was : AgreesWith opened past s → (u : Unfolded) × (shown_in (files s.keys) (oldest (opened + o.since) past) n ≡ Some u)
  was h = stood (files s.keys) (file_rules s.keys) SpellsNode n opened past ((standing_view s).cell n) o x (Given bytes) (going h) d

  told : (h : AgreesWith opened past s) → bytes ≡ spelled s.keys.block n (was h).0 → IsTold s past n x o bytes
  told h is = record {
    u = (was h).0;
    is = is;
    now = stands (files s.keys) (file_rules s.keys) SpellsNode n opened past ((standing_view s).cell n) o x (Given bytes) (going h) d;
    expected = subst (IsTrueOf (files s.keys) n x) (was h).1 (first h).1;
  }

  at : AgreesWith opened past s → begun past note ≡ oldest (opened + o.since) past
  at h = begun_then (files s.keys) (file_rules s.keys) n opened past ((standing_view s).cell n) o (going h) note.note refl

  agreed : (h : AgreesWith opened past s) → bytes ≡ spelled s.keys.block n (was h).0 → ShowsTable s past p → Brought n o (standing_view s) (standing_view (with_pool p s))
      → Agrees (files s.keys) (file_rules s.keys) opened (note ∷ past) (standing_view (with_pool p s)) → AgreesWith opened (note ∷ past) (with_pool p s)
  agreed h is shown b agrees = carried_over opened past (note ∷ past) s p h (record {
    table = refl;
    pictures = shown.pictures;
    shows = shown.shows;
    settled = shown.settled;
    agrees = agrees;
    parents = (parents_stay (files s.keys)).ends leads_to past (note ∷ past) n (standing_view s) (standing_view (with_pool p s)) h.parents b.rest (λ q. refl) b.out
        (stays_resident o.who o.touched ((standing_view s).cell n) ((standing_view (with_pool p s)).cell n) (λ w. (standing_view s).pinned w n) (λ w. (standing_view (with_pool p s)).pinned w n) b.brings);
    evidence = (evidence_stays (files s.keys)).gets opened past (standing_view s) (standing_view (with_pool p s)) n o (Given bytes) b
        (record { u = (was h).0; live = ap (λ q. shown_in (files s.keys) q n) (at h) ∙ (was h).1; is = ap Given is }) h.evidence;
    fewer = others_mark_nothing.brings n o (standing_view s) (standing_view (with_pool p s)) b;
  })

  pub kept_right : (IsTold s past n x o bytes → LegalFiles s.keys past → AgreesWith opened past s → ShowsTable s past p) → PassesCheck (files s.keys) SpellsNode n x bytes → Brought n o (standing_view s) (standing_view (with_pool p s))
      → StandsFor opened past s → StandsFor opened (note ∷ past) (with_pool p s)
  kept_right shows pass b (inl bad) = inl (inr bad)
  kept_right shows pass b (inr h) = by (fruitful_gets_keep (files s.keys) (file_rules s.keys) opened past (standing_view s) (standing_view (with_pool p s)) n o x (Given bytes) out d b h.1.agrees) where
    by : IsLawful (files s.keys) (file_rules s.keys) opened past (begun past note) note.note × Agrees (files s.keys) (file_rules s.keys) opened (note ∷ past) (standing_view (with_pool p s)) → StandsFor opened (note ∷ past) (with_pool p s)
    by g = elim (passed_right (files s.keys) (file_rules s.keys) SpellsNode n opened past ((standing_view s).cell n) o x (Given bytes) (going h.1) d (spells s.keys (file_rules s.keys)) (one s.keys) (g.0, h.0) bytes refl pass) [
      | inl bad ↦ inl bad
      | inr is ↦ inr ((g.0, h.0), agreed h.1 is (shows (told h.1 is) h.0 h.1) b g.1)
    ]
