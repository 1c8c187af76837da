-- Laws of pasts and of their beginnings.
use Rattle.std.proofs.Common.{◌≡◌, ◌⊎◌, inl, inr, ℕ, suc, ◌+◌, ◌-◌, ◌≤◌, ◌<◌, min, List, [], ◌∷◌, ◌++◌, length, drop, true, false, cond, refl, sym, ap, subst, arith}
use Rattle.iris_name.specs.declared.name.Name.{Name}
use Rattle.iris_name.specs.declared.note.Note.{Note}
use Rattle.iris_name.specs.declared.note.Note.TheVariants.{Call, Got, Put, Dropped}
use Rattle.iris_name.specs.declared.request.Request.{Request}
use Rattle.iris_name.specs.History.{Past, Stamped, oldest, began, begun, since_of, AllSince, noted, past_of}
use Rattle.iris_name.specs.Names.{same_name}
use Rattle.iris_history.specs.Answers.{Last, Nothing, Stored, Gone, last_by, last_of}
use Rattle.iris_history.specs.Kept.{Kept, table_of, after_note, takes_step}
use Rattle.iris_history.specs.Legal.{ComesAfter}

-- a note that begins where it stands began on the whole past
pub begun_here : (past : Past) (x : Stamped) → length past ≤ x.opened + since_of x.note (length past) → begun past x ≡ past
begun_here past x h =
    let e : length past - min (x.opened + since_of x.note (length past)) (length past) ≡ 0 = omega arith in
    ap (λ n. drop n past) e

-- the oldest notes are the same under one more
pub oldest_more : (n : ℕ) (x : Stamped) (past : Past) → n ≤ length past → oldest n (x ∷ past) ≡ oldest n past
oldest_more n x past h = let e : length (x ∷ past) - n ≡ suc (length past - n) = omega arith in ap (λ k. drop k (x ∷ past)) e

pub AllSince-map : (P Q : Past → Type 0) → ((p : Past) → P p → Q p) → (n : ℕ) (past : Past) → AllSince P n past → AllSince Q n past
AllSince-map P Q f n [] h = f [] h
AllSince-map P Q f n (x ∷ past) h = (f (x ∷ past) h.0, λ le. AllSince-map P Q f n past (h.1 le))

pub AllSince-now : (P : Past → Type 0) (n : ℕ) (past : Past) → AllSince P n past → P past
AllSince-now P n [] h = h
AllSince-now P n (x ∷ past) h = h.0

pub AllSince-at : (P : Past → Type 0) (n : ℕ) (past : Past) → AllSince P n past → n ≤ length past → P (oldest n past)
AllSince-at P n [] h le = let z : 0 - n ≡ 0 = omega arith in subst (λ k. P (drop k [])) (sym z) h
AllSince-at P n (x ∷ past) h le = elim (le_or n (length past)) [
  | inl lt ↦ subst P (sym (oldest_more n x past lt)) (AllSince-at P n past (h.1 lt) lt)
  | inr e ↦ (let z : length (x ∷ past) - n ≡ 0 = omega (arith, e) in subst P (sym (ap (λ k. drop k (x ∷ past)) z)) h.0)
] where
  le_or : (a b : ℕ) → (a ≤ b) ⊎ (b < a)
  le_or a b = grind arith

-- a table has what each step keeps
pub table_keeps : (k : Kept) (P : k.Table → Type 0) → P k.start → ((t : k.Table) (r : Request) → P t → P (k.step t r)) → (past : Past) → P (table_of k past)
table_keeps k P s f [] = s
table_keeps k P s f (x ∷ past) = by_note (table_of k past) x.note (table_keeps k P s f past) where
  by_note : (t : k.Table) (note : Note) → P t → P (after_note k t note)
  by_note t (Call who request reply) h = elim (takes_step reply) as (λ v. P (cond v (k.step t request) t)) [ true ↦ f t request h | false ↦ h ]
  by_note t (Got who since name answer) h = h
  by_note t (Put who since name bytes ok) h = h
  by_note t (Dropped who since name ok) h = h

-- it began with at most that many notes
abbrev pub BeganBy : ℕ → Last → Type 0
BeganBy m Nothing = Unit {0}
BeganBy m (Stored began bytes ok) = began ≤ m
BeganBy m (Gone began ok) = began ≤ m

BeganBy-more : (m : ℕ) (last : Last) → BeganBy m last → BeganBy (suc m) last
BeganBy-more m Nothing h = tt
BeganBy-more m (Stored began bytes ok) h = omega arith
BeganBy-more m (Gone began ok) h = omega arith

began_by : (n : Name) (note : Note) (b m : ℕ) (last : Last) → b ≤ m → BeganBy m last → BeganBy m (last_by n note b last)
began_by n (Call who request reply) b m last le h = h
began_by n (Got who since name answer) b m last le h = h
began_by n (Put who since name bytes ok) b m last le h = elim (same_name n name) as (λ v. BeganBy m (cond v (Stored b bytes ok) last)) [ true ↦ le | false ↦ h ]
began_by n (Dropped who since name ok) b m last le h = elim (same_name n name) as (λ v. BeganBy m (cond v (Gone b ok) last)) [ true ↦ le | false ↦ h ]

-- what was put or discarded last began within the past
pub last_began : (n : Name) (past : Past) → BeganBy (length past) (last_of n past)
last_began n [] = tt
last_began n (x ∷ past) = BeganBy-more (length past) _ (began_by n x.note (began past x) (length past) (last_of n past) (omega arith) (last_began n past))

-- where a transfer begins here, each other came before
pub comes_last : (n : Name) (m : ℕ) (past : Past) → length past ≤ m → ComesAfter n m past
comes_last n m [] h = tt
comes_last n m (x ∷ past) h = (λ e. omega arith, comes_last n m past (omega arith))

pub noted_last : (opened : ℕ) (past : Past) (notes : List Note) (x : Note) → noted opened past (notes ++ x ∷ []) ≡ record { note = x; opened = opened } ∷ noted opened past notes
noted_last opened past [] x = refl
noted_last opened past (n ∷ notes) x = noted_last opened (record { note = n; opened = opened } ∷ past) notes x

-- one note more in the only session
pub past_last : (notes : List Note) (x : Note) → past_of ((notes ++ x ∷ []) ∷ []) ≡ record { note = x; opened = 0 } ∷ past_of (notes ∷ [])
past_last notes x = noted_last 0 [] notes x
