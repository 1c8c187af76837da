-- Laws of the registers' table.
use Rattle.std.proofs.Common.{◌≡◌, ◌≢◌, inl, inr, ℕ, zero, suc, ◌+◌, ◌≤◌, List, [], ◌∷◌, length, drop, Bool, true, false, cond, not, ◌==◌, Option, Some, None, refl, sym, ◌∙◌, ap, arith, IsSome, is_some}
use Rattle.std.proofs.lemmas.List.{length-replicate}
use Rattle.std.proofs.lemmas.Bool.{eq-eqb}
use Rattle.std.proofs.lemmas.Bool.Decides.{eqb_tells}
use Rattle.iris_name.specs.declared.note.Note.{Note}
use Rattle.iris_name.specs.declared.note.Note.TheVariants.{Call, Got, Put, Dropped}
use Rattle.iris_name.specs.declared.request.Request.{Request}
use Rattle.iris_name.specs.declared.request.Request.TheVariants.{Write}
use Rattle.iris_name.specs.History.{Past}
use Rattle.iris_name.specs.Names.{same_name}
use Rattle.iris_history.specs.Kept.{table_of, after_note, takes_step, version_of}
use Rattle.iris_history.proofs.Pasts.{table_keeps}
use Rattle.iris.specs.Registers.{Registers, stepped_registers, register_at, registers, block_name, shown_register}
use Rattle.iris_rows.specs.Rows.{zeros}

-- the registers after a past
abbrev pub table : List ℕ → Past → Registers
table key past = table_of (registers key) past

pub live_shown : (t : Registers) (p : ℕ) → t.version p ≢ 0 → shown_register t (block_name p) ≡ Some (t.version p, t.block p)
live_shown t p h = elim (eqb_tells (t.version p) 0) [
  | inl e ↦ absurd (h e.1)
  | inr e ↦ ap (λ b. cond (not b) (Some (t.version p, t.block p)) None) e.0
]

pub dead_shown : (t : Registers) (p : ℕ) → t.version p ≡ 0 → shown_register t (block_name p) ≡ None
dead_shown t p h = ap (λ b. cond (not b) (Some (t.version p, t.block p)) None) (eq-eqb (t.version p) 0 h)

pub version_shown : (key : List ℕ) (t : Registers) (p : ℕ) → version_of (registers key) (shown_register t (block_name p)) ≡ t.version p
version_shown key t p = elim (eqb_tells (t.version p) 0) [
  | inl e ↦ ap (version_of (registers key)) (dead_shown t p e.1) ∙ sym e.1
  | inr e ↦ ap (version_of (registers key)) (live_shown t p (λ z. no_eq (t.version p == 0) (sym e.0 ∙ eq-eqb (t.version p) 0 z)))
] where
  no_eq : (b : Bool) → false ≡ true → ⊥
  no_eq b h = cc

-- places with one version and one block stand for the same
pub shown_same : (t u : Registers) (p : ℕ) → t.version p ≡ u.version p → t.block p ≡ u.block p → shown_register t (block_name p) ≡ shown_register u (block_name p)
shown_same t u p e f = elim (eqb_tells (u.version p) 0) [
  | inl z ↦ dead_shown t p (e ∙ z.1) ∙ sym (dead_shown u p z.1)
  | inr z ↦ (let live : u.version p ≢ 0 = λ h. (let no : false ≡ true = sym z.0 ∙ eq-eqb (u.version p) 0 h in absurd (cc)) in
      live_shown t p (λ h. live (sym e ∙ h)) ∙ (pair e f ∙ sym (live_shown u p live)))
] where
  pair : {a c : ℕ} {b d : List ℕ} → a ≡ c → b ≡ d → let x : Option (ℕ × List ℕ) = Some (a, b) in let y : Option (ℕ × List ℕ) = Some (c, d) in x ≡ y
  pair e f = cc

pub is_live : (t : Registers) (p : ℕ) → IsSome (shown_register t (block_name p)) → t.version p ≢ 0
is_live t p live z = let no : false ≡ true = ap is_some (sym (dead_shown t p z)) ∙ live in absurd (cc)

-- no version is above the counter
pub version_le : (key : List ℕ) (past : Past) (p : ℕ) → (table key past).version p ≤ (table key past).counter
version_le key past p = table_keeps (registers key) (λ t. t.version p ≤ t.counter) (omega arith) (λ t r h. by_request t r h) past where
  by_request : (t : Registers) (r : Request) → t.version p ≤ t.counter → (stepped_registers t r).version p ≤ (stepped_registers t r).counter
  by_request t (Write path offset bytes) h = elim (p == register_at offset) as (λ v. cond v (t.counter + 1) (t.version p) ≤ t.counter + 1) [ true ↦ omega arith | false ↦ omega arith ]
  by_request t _ h = h

-- a place that was never written has zeros
pub unwritten : (key : List ℕ) (past : Past) (p : ℕ) → (table key past).version p ≡ 0 → (table key past).block p ≡ zeros
unwritten key past p = table_keeps (registers key) (λ t. t.version p ≡ 0 → t.block p ≡ zeros) (λ e. refl) (λ t r h. by_request t r h) past where
  by_request : (t : Registers) (r : Request) → (t.version p ≡ 0 → t.block p ≡ zeros) → (stepped_registers t r).version p ≡ 0 → (stepped_registers t r).block p ≡ zeros
  by_request t (Write path offset bytes) h = elim (p == register_at offset) as (λ v. cond v (t.counter + 1) (t.version p) ≡ 0 → cond v bytes (t.block p) ≡ zeros) [ true ↦ λ e. absurd (omega arith) | false ↦ h ]
  by_request t _ h = h

-- a place's version grows, and while it stays the block does
pub record Grows (old new : Registers) (p : ℕ) : Type 0 where
  pub least : old.version p ≤ new.version p
  pub same : old.version p ≡ new.version p → old.block p ≡ new.block p

stays : (t : Registers) (p : ℕ) → Grows t t p
stays t p = record { least = omega arith; same = λ e. refl }

stepped_grows : (t : Registers) (r : Request) (p : ℕ) → t.version p ≤ t.counter → Grows t (stepped_registers t r) p
stepped_grows t (Write path offset bytes) p h =
    let both : (t.version p ≤ cond (p == register_at offset) (t.counter + 1) (t.version p)) × (t.version p ≡ cond (p == register_at offset) (t.counter + 1) (t.version p) → t.block p ≡ cond (p == register_at offset) bytes (t.block p)) = elim (p == register_at offset) as (λ v. (t.version p ≤ cond v (t.counter + 1) (t.version p)) × (t.version p ≡ cond v (t.counter + 1) (t.version p) → t.block p ≡ cond v bytes (t.block p))) [ true ↦ (omega arith, λ e. absurd (omega arith)) | false ↦ (omega arith, λ e. refl) ] in
    record { least = both.0; same = both.1 }
stepped_grows t _ p h = stays t p

after_grows : (key : List ℕ) (t : Registers) (note : Note) (p : ℕ) → t.version p ≤ t.counter → Grows t (after_note (registers key) t note) p
after_grows key t (Call who request reply) p h = elim (takes_step reply) as (λ v. Grows t (cond v (stepped_registers t request) t) p) [ true ↦ stepped_grows t request p h | false ↦ stays t p ]
after_grows key t (Got who since name answer) p h = stays t p
after_grows key t (Put who since name bytes ok) p h = stays t p
after_grows key t (Dropped who since name ok) p h = stays t p

pub older : (key : List ℕ) (m : ℕ) (past : Past) (p : ℕ) → Grows (table key (drop m past)) (table key past) p
older key zero past p = stays _ p
older key (suc m) [] p = stays _ p
older key (suc m) (x ∷ past) p =
    let a = older key m past p in
    let b = after_grows key (table key past) x.note p (version_le key past p) in
    record { least = omega arith; same = λ e. a.same (omega arith) ∙ b.same (omega arith) }

pub same_self : (p : ℕ) → same_name (block_name p) (block_name p) ≡ true
same_self p = eq-eqb p p refl

pub same_other : (p q : ℕ) → q ≢ p → same_name (block_name q) (block_name p) ≡ false
same_other p q ne = elim (eqb_tells q p) [ inl h ↦ absurd (ne h.1) | inr h ↦ h.0 ]

pub length_zeros : length zeros ≡ 4096
unfolding zeros
length_zeros = length-replicate {A = ℕ} 4096 0
