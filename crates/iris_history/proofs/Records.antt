-- What was put last carries a name's record, and what passes for a block is that block or forged.
use Rattle.std.proofs.Common.{◌≡◌, ◌≢◌, ◌⊎◌, inl, inr, ℕ, suc, ◌-◌, ◌≤◌, List, [], ◌∷◌, length, take, drop, Bool, Some, refl, sym, ◌∙◌, ap, subst, arith}
use Rattle.iris_name.specs.declared.note.Answer.TheVariants.{Given}
use Rattle.iris_name.specs.declared.name.FileId.{FileId}
use Rattle.iris_name.specs.declared.name.Name.{Name}
use Rattle.iris_name.specs.declared.name.Name.TheVariants.{Block}
use Rattle.iris_name.specs.declared.note.Note.{Note}
use Rattle.iris_name.specs.declared.note.Note.TheVariants.{Call, Got, Put, Dropped}
use Rattle.iris_name.specs.History.{Past, Stamped, oldest, began, begun}
use Rattle.iris_name.specs.Hmac.{Passes}
use Rattle.iris_name.specs.Names.{same_name}
use Rattle.iris_history.specs.Answers.{Last, Nothing, Stored, Gone, last_by, last_of}
use Rattle.iris_history.specs.Breaks.{PutsBlock, WasPut, Breaks}
use Rattle.iris_history.specs.Kept.{Kept, Carries, version_of, shown_in}
use Rattle.iris_history.specs.Legal.{Rules, IsLegal, IsLawful, IsBad}
use Rattle.iris_history.specs.Status.{IsStored, IsClean}
use Rattle.iris_history.proofs.Names.{chosen, named, same_list}
use Rattle.iris_history.proofs.Pasts.{AllSince-at, BeganBy, last_began, oldest_more}

-- what was put last carries the name's record of then
pub last_record : (k : Kept) (r : Rules) (n : Name) (past : Past) → IsLegal k r past → (start : ℕ) (bytes : List ℕ) (ok : Bool) → last_of n past ≡ Stored start bytes ok → Carries k n (shown_in k (oldest start past) n) bytes
last_record k r n [] legal start bytes ok e = absurd (cc)
last_record k r n (x ∷ past) legal start bytes ok e =
    by_note x.note x.opened legal.0 e (λ f.
    let le : start ≤ length past = subst (BeganBy (length past)) f (last_began n past) in
    subst (λ q. Carries k n (shown_in k q n) bytes) (sym (oldest_more start x past le)) (last_record k r n past legal.1 start bytes ok f))
  where
    by_note : (note : Note) (opened : ℕ) → IsLawful k r opened past (begun past x) note → last_by n note (began past x) (last_of n past) ≡ Stored start bytes ok
        → (last_of n past ≡ Stored start bytes ok → Carries k n (shown_in k (oldest start (x ∷ past)) n) bytes)
        → Carries k n (shown_in k (oldest start (x ∷ past)) n) bytes
    by_note (Call who request reply) opened l f earlier = earlier f
    by_note (Got who since name answer) opened l f earlier = earlier f
    by_note (Dropped who since name okay) opened l f earlier = elim (chosen (same_name n name) _ _ _ f) [ inl h ↦ absurd (let g = h.1 in cc) | inr h ↦ earlier h.1 ]
    by_note (Put who since name other okay) opened l f earlier = elim (chosen (same_name n name) _ _ _ f) [
      | inl h ↦ (let g = h.1 in
          let sb : other ≡ bytes = cc in
          let ss : began past x ≡ start = cc in
          let le : start ≤ length past = omega (arith, ss) in
          subst (λ q. Carries k n (shown_in k q n) bytes) (ap (λ m. oldest m past) ss ∙ sym (oldest_more start x past le))
          (subst (λ b. Carries k n (shown_in k (begun past x) n) b) sb
          (subst (λ m. Carries k m (shown_in k (begun past x) m) other) (named n name h.0) l.0)))
      | inr h ↦ earlier h.1
    ]

-- a clean name's last put carries its record as it is now
pub clean_record : (k : Kept) (r : Rules) (n : Name) (past : Past) → IsLegal k r past → (start : ℕ) (bytes : List ℕ) (ok : Bool) → last_of n past ≡ Stored start bytes ok → IsStored k n past (Stored start bytes ok) → Carries k n (shown_in k past n) bytes
clean_record k r n past legal start bytes ok e h =
    let le : start ≤ length past = subst (BeganBy (length past)) e (last_began n past) in
    subst (λ u. Carries k n u bytes) (AllSince-at (λ q. shown_in k q n ≡ shown_in k past n) start past h.1 le) (last_record k r n past legal start bytes ok e)

-- a lawful put of the version that the name has now carries what the name stands for now
no_put : (k : Kept) (r : Rules) (n : Name) (v : ℕ) (u : k.Unfolded) (other : List ℕ) (opened : ℕ) (past at : Past) (note : Note)
    → IsLawful k r opened past at note
    → (version_of k (shown_in k at n) ≡ v → shown_in k at n ≡ Some u)
    → take 4096 (k.spelled n u) ≢ other → PutsBlock k n v other at note → ⊥
no_put k r n v u other opened past at (Call who request reply) l same ne puts = puts
no_put k r n v u other opened past at (Got who since name answer) l same ne puts = puts
no_put k r n v u other opened past at (Dropped who since name ok) l same ne puts = puts
no_put k r n v u other opened past at (Put who since name bytes ok) l same ne puts =
    let here : Carries k n (shown_in k at n) bytes = subst (λ m. Carries k m (shown_in k at m) bytes) (named n name puts.0) l.0 in
    let carried : bytes ≡ k.spelled n u = subst (λ o. Carries k n o bytes) (same puts.1) here in
    ne (ap (take 4096) (sym carried) ∙ puts.2)

never_put : (k : Kept) (r : Rules) (n : Name) (v : ℕ) (u : k.Unfolded) (other : List ℕ) (past : Past)
    → IsLegal k r past
    → ((m : ℕ) → version_of k (shown_in k (drop m past) n) ≡ v → shown_in k (drop m past) n ≡ Some u)
    → take 4096 (k.spelled n u) ≢ other → WasPut k n v other past → ⊥
never_put k r n v u other [] legal same ne was = was
never_put k r n v u other (x ∷ past) legal same ne (inl puts) =
    no_put k r n v u other x.opened past (begun past x) x.note legal.0 (same (suc (length past - began past x))) ne puts
never_put k r n v u other (x ∷ past) legal same ne (inr was) =
    never_put k r n v u other past legal.1 (λ m. same (suc m)) ne was

-- What a get gives and passes for the version as it was when it began is what the name stood for then, or it is forged.
pub got_passing : (k : Kept) (r : Rules) (f : FileId) (p : ℕ) (u : k.Unfolded) (who since : ℕ) (bytes : List ℕ) (past : Past) (x : Stamped)
    → x.note ≡ Got who since (Block f p) (Given bytes)
    → IsLegal k r (x ∷ past)
    → shown_in k (begun past x) (Block f p) ≡ Some u
    → ((m : ℕ) → version_of k (shown_in k (drop m past) (Block f p)) ≡ k.version u → shown_in k (drop m past) (Block f p) ≡ Some u)
    → Passes k.key f.0 p (k.version u) bytes
    → IsBad k r (x ∷ past) ⊎ (take 4096 bytes ≡ take 4096 (k.spelled (Block f p) u))
got_passing k r f p u who since bytes past x e legal now same pass = elim (same_list (take 4096 bytes) (take 4096 (k.spelled (Block f p) u))) [
  | inl h ↦ inr h
  | inr ne ↦ inl (inl (subst (λ note. Breaks k past (begun past x) note) (sym e) (inl (subst (λ o. Passes k.key f.0 p (version_of k o) bytes × (WasPut k (Block f p) (version_of k o) (take 4096 bytes) past → ⊥)) (sym now) (pass, never_put k r (Block f p) (k.version u) u (take 4096 bytes) past legal.1 same (λ z. ne (sym z))))), legal))
]

-- a clean name was put last, and that put carries its record as it is now
pub clean_put : (k : Kept) (r : Rules) (n : Name) (past : Past) → IsLegal k r past → IsClean k n past
    → (start : ℕ) × (bytes : List ℕ) × (ok : Bool) × (last_of n past ≡ Stored start bytes ok) × Carries k n (shown_in k past n) bytes
clean_put k r n past legal clean = by_last (last_of n past) refl clean.stored where
  by_last : (last : Last) → last_of n past ≡ last → IsStored k n past last
      → (start : ℕ) × (bytes : List ℕ) × (ok : Bool) × (last_of n past ≡ Stored start bytes ok) × Carries k n (shown_in k past n) bytes
  by_last Nothing e h = absurd h
  by_last (Gone start ok) e h = absurd h
  by_last (Stored start bytes ok) e h = (start, bytes, ok, e, clean_record k r n past legal start bytes ok e h)
