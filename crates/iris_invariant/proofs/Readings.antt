-- What an answer of the store shows: the record or a forgery, the record or a collision, or something other.
use Rattle.std.proofs.Common.{◌≡◌, ◌≢◌, ◌⊎◌, inl, inr, ℕ, ◌+◌, List, ◌∷◌, ◌++◌, take, drop, Bool, true, false, Option, Some, None, refl, sym, ◌∙◌, ap, subst, IsSome}
use Rattle.std.specs.Prelude.{IsSomeAnd}
use Rattle.std.proofs.lemmas.List.{take-append-drop}
use Rattle.sha2.specs.Sha256.{sha256}
use Rattle.iris_name.specs.declared.name.Name.{Name}
use Rattle.iris_name.specs.declared.name.Name.TheVariants.{Entry, Part, Block}
use Rattle.iris_name.specs.declared.note.Answer.{Answer}
use Rattle.iris_name.specs.declared.note.Answer.TheVariants.{Absent, Given, Failed}
use Rattle.iris_name.specs.declared.note.Expect.{Expect}
use Rattle.iris_name.specs.declared.note.Expect.TheVariants.{Hash, Version}
use Rattle.iris_name.specs.History.{Past, Stamped, oldest, begun}
use Rattle.iris_name.specs.Hmac.{Passes, tag}
use Rattle.iris_history.specs.Answers.{Stored, last_of, IsOther, IsFailure}
use Rattle.iris_history.specs.Breaks.{Breaks, Collides}
use Rattle.iris_history.specs.Kept.{Kept, Carries, is_block, shown_in}
use Rattle.iris_history.specs.Legal.{Rules, IsLegal, IsBad}
use Rattle.iris_history.proofs.Growth.{legal_before}
use Rattle.iris_history.proofs.Names.{same_list}
use Rattle.iris_history.proofs.Records.{clean_put, got_passing}
use Rattle.iris_history.specs.StatusLaws.{got}
use Rattle.iris_invariant.specs.Agrees as a
use Rattle.iris_invariant.specs.Agrees.{Getting, Out, Cell, Touch, IsTrueOf, WasRight, is_challenge, Going}
use Rattle.iris_invariant.specs.Readings.{PassesAs, PassesCheck, Spells, OneBlock}
use Rattle.iris_history.proofs.Steady.{true_false, last_kept}
use Rattle.iris_invariant.proofs.Names.{then_now}
use Rattle.iris_invariant.proofs.Ends.{begun_then}

-- records that pass for one version and carry one block are one
pub passing_same : (key : List ℕ) (file place version : ℕ) (x y : List ℕ) → Passes key file place version x → Passes key file place version y → take 4096 x ≡ take 4096 y → x ≡ y
passing_same key file place version x y p q e =
    sym (take-append-drop 4096 x) ∙ (ap (λ z. z ++ drop 4096 x) e ∙ (ap (λ z. take 4096 y ++ z) (p.1 ∙ (ap (tag key file place version) e ∙ sym q.1)) ∙ take-append-drop 4096 y))

some_is : {A : Type 0} (o : Option A) → IsSome o → (u : A) × (o ≡ Some u)
some_is None s = absurd (cc)
some_is (Some u) s = (u, refl)

module _ (k : Kept) (r : Rules) (Fits : Name → List ℕ → Type 0) (n : Name) (opened : ℕ) (past : Past) (c : Cell) (o : Out) (expect : Expect) (answer : Answer)
    (g : Going k r opened n past c o) (d : o.doing ≡ Getting expect) where
  abbrev b : ℕ
  b = opened + o.since

  abbrev x : Stamped
  x = got opened o.who o.since n answer

  first : WasRight k r n o.request o.crowded (Getting expect) (oldest b past)
  first = subst (λ z. WasRight k r n o.request o.crowded z (oldest b past)) d g.first

  at : begun past x ≡ oldest b past
  at = begun_then k r n opened past c o g x.note refl

  -- what the name stood for when the get began
  pub stood : (u : k.Unfolded) × (shown_in k (oldest b past) n ≡ Some u)
  stood = some_is (shown_in k (oldest b past) n) first.0.live

  -- and stands for now, where it is untouched
  pub stands : o.touched ≡ false → shown_in k past n ≡ Some stood.0
  stands f = by g.touch where
    by : Touch k n b past o.touched → shown_in k past n ≡ Some stood.0
    by (a.Untouched e s) = sym (then_now k n b past g.began s) ∙ stood.1
    by (a.Touched e ns) = absurd (true_false _ e f)

  -- the last put of the name, now, carries what it stood for when the get began
  pub last_is : IsLegal k r past → (start : ℕ) × (ok : Bool) × (last_of n past ≡ Stored start (k.spelled n stood.0) ok)
  last_is legal = by (clean_put k r n (oldest b past) (legal_before k r _ past legal) first.0) where
    by : ((start : ℕ) × (bytes : List ℕ) × (ok : Bool) × (last_of n (oldest b past) ≡ Stored start bytes ok) × Carries k n (shown_in k (oldest b past) n) bytes)
        → (start : ℕ) × (ok : Bool) × (last_of n past ≡ Stored start (k.spelled n stood.0) ok)
    by l = let e : l.1 ≡ k.spelled n stood.0 = subst (λ u. Carries k n u l.1) stood.1 l.4 in
        (l.0, l.2, last_kept n b past g.began g.alone ∙ (l.3 ∙ ap (λ z. Stored l.0 z l.2) e))

  -- the true record passes the check
  pub record_passes : Spells k r Fits → IsLegal k r past → PassesCheck k Fits n expect (k.spelled n stood.0)
  record_passes s legal = by expect first.1 where
    then : IsLegal k r (oldest b past)
    then = legal_before k r _ past legal

    block : (m : Name) (v : ℕ) → is_block m ≡ true → shown_in k (oldest b past) m ≡ Some stood.0 → v ≡ k.version stood.0 → PassesAs k m v (k.spelled m stood.0)
    block (Block f p) v bl e ve = subst (λ z. Passes k.key f.0 p z (k.spelled (Block f p) stood.0)) (sym ve) (s.block (oldest b past) f p stood.0 then e)
    block (Entry i) v bl e ve = absurd (cc)
    block (Part f l i) v bl e ve = absurd (cc)

    by : (e : Expect) → IsTrueOf k n e (shown_in k (oldest b past) n) → PassesCheck k Fits n e (k.spelled n stood.0)
    by (Hash h) t = (sym (subst (λ u. IsSomeAnd u (λ v. h.0 ≡ sha256 (k.spelled n v))) stood.1 t.1), s.node (oldest b past) n stood.0 then t.0 stood.1)
    by (Version v) t = block n v t.0 stood.1 (subst (λ u. IsSomeAnd u (λ w. v ≡ k.version w)) stood.1 t.1)

  -- an answer that neither failed nor passes is other
  pub refused_other : Spells k r Fits → IsLegal k r past → (IsFailure answer → ⊥) → ((bytes : List ℕ) → answer ≡ Given bytes → PassesCheck k Fits n expect bytes → ⊥) → IsOther (last_of n past) answer
  refused_other s legal nf np = let l = last_is legal in subst (λ z. IsOther z answer) (sym l.2) (by l.0 l.1 answer nf np) where
    by : (start : ℕ) (ok : Bool) (ans : Answer) → (IsFailure ans → ⊥) → ((bytes : List ℕ) → ans ≡ Given bytes → PassesCheck k Fits n expect bytes → ⊥) → IsOther (Stored start (k.spelled n stood.0) ok) ans
    by start ok Absent nf np = tt
    by start ok Failed nf np = nf tt
    by start ok (Given bytes) nf np = λ e. np bytes refl (subst (PassesCheck k Fits n expect) (sym e) (record_passes s legal))

  -- and an answer that is the record, or failed, is not
  pub right_not_other : IsLegal k r past → answer ≡ Given (k.spelled n stood.0) → IsOther (last_of n past) answer → ⊥
  right_not_other legal e h = let l = last_is legal in subst (λ z. IsOther (Stored l.0 (k.spelled n stood.0) l.1) z) e (subst (λ z. IsOther z answer) l.2 h) refl

  -- an answer that passes is the record, or the history is bad
  pub passed_right : Spells k r Fits → OneBlock k → IsLegal k r (x ∷ past) → (bytes : List ℕ) → answer ≡ Given bytes → PassesCheck k Fits n expect bytes → IsBad k r (x ∷ past) ⊎ (bytes ≡ k.spelled n stood.0)
  passed_right s one legal bytes e pass = by expect first.1 pass where
    node : (h : _) → is_block n ≡ false → h ≡ sha256 (k.spelled n stood.0) → sha256 bytes ≡ h → IsBad k r (x ∷ past) ⊎ (bytes ≡ k.spelled n stood.0)
    node h nb he hb = elim (same_list bytes (k.spelled n stood.0)) [
      | inl same ↦ inr same
      | inr ne ↦ inl (inl (subst (λ z. Breaks k past (begun past x) (got opened o.who o.since n z).note) (sym e) (inr (subst (λ q. Collides k q n bytes) (sym at) (nb, subst (λ u. IsSomeAnd u (λ v. (bytes ≢ k.spelled n v) × (sha256 bytes ≡ sha256 (k.spelled n v)))) (sym stood.1) (ne, hb ∙ he)))), legal))
    ]

    block : (m : Name) (v : ℕ) → n ≡ m → PassesAs k m v bytes → v ≡ k.version stood.0 → IsBad k r (x ∷ past) ⊎ (bytes ≡ k.spelled n stood.0)
    block (Entry i) v nm p ve = absurd p
    block (Part f l i) v nm p ve = absurd p
    block (Block f p) v nm ps ve =
        let live : shown_in k (oldest b past) (Block f p) ≡ Some stood.0 = subst (λ z. shown_in k (oldest b past) z ≡ Some stood.0) nm stood.1 in
        let pass : Passes k.key f.0 p (k.version stood.0) bytes = subst (λ z. Passes k.key f.0 p z bytes) ve ps in
        elim (got_passing k r f p stood.0 o.who o.since bytes past x (ap (λ z. (got opened o.who o.since n z).note) e ∙ ap (λ z. (got opened o.who o.since z (Given bytes)).note) nm) legal
        (ap (λ q. shown_in k q (Block f p)) at ∙ live) (λ m. one past _ m f p stood.0 live) pass) [
          | inl bad ↦ inl bad
          | inr same ↦ inr (passing_same k.key f.0 p (k.version stood.0) bytes (k.spelled (Block f p) stood.0) pass (s.block (oldest b past) f p stood.0 (legal_before k r _ past legal.1) live) same ∙ ap (λ z. k.spelled z stood.0) (sym nm))
        ]

    by : (ex : Expect) → IsTrueOf k n ex (shown_in k (oldest b past) n) → PassesCheck k Fits n ex bytes → IsBad k r (x ∷ past) ⊎ (bytes ≡ k.spelled n stood.0)
    by (Hash h) t p = node h.0 t.0 (subst (λ u. IsSomeAnd u (λ v. h.0 ≡ sha256 (k.spelled n v))) stood.1 t.1) p.0
    by (Version v) t p = block n v refl p (subst (λ u. IsSomeAnd u (λ w. v ≡ k.version w)) stood.1 t.1)
