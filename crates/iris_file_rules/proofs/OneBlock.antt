-- In one history of the file system a block's name and version stand for one block.
use Rattle.std.proofs.Common.{◌≡◌, ◌≢◌, ◌⊎◌, inl, inr, ℕ, zero, suc, ◌+◌, ◌-◌, ◌≤◌, ◌<◌, ◌==◌, List, [], ◌∷◌, ◌++◌, drop, Bool, true, false, cond, Option, Some, None, refl, sym, ◌∙◌, ap, subst, arith}
use Rattle.std.proofs.lemmas.Bool.Decides.{eqb_tells}
use Rattle.iris_mac.specs.declared.keys.Keys.{Keys}
use Rattle.iris_name.specs.declared.name.FileId.{FileId}
use Rattle.iris_name.specs.declared.name.Name.TheVariants.{Block}
use Rattle.iris_name.specs.declared.note.Note.{Note}
use Rattle.iris_name.specs.declared.note.Note.TheVariants.{Call, Got, Put, Dropped}
use Rattle.iris_name.specs.declared.request.Request.{Request}
use Rattle.iris_name.specs.History.{Past}
use Rattle.iris_history.specs.Kept.{takes_step, table_of, after_note, shown_in, version_of}
use Rattle.iris_history.proofs.Pasts.{table_keeps}
use Rattle.iris_node.specs.Unfolded.{Unfolded, Stored}
use Rattle.iris_rows.specs.Standing.{Has, StandsInTable}
use Rattle.iris_rows.specs.Changes.{stepped, after_requests}
use Rattle.iris_rows.specs.Rows.{File, Rows, End, Row, Table}
use Rattle.iris_records.specs.Shown.{shown, in_file, block_of_place, inside_rows, roots}
use Rattle.iris_rows.specs.Sound.{IsSound}
use Rattle.iris_table_laws.proofs.BlocksByVersion.{one_block}
use Rattle.iris_rows.proofs.SoundStep.{sound_kept, sound_empty}
use Rattle.iris_file_rules.specs.FileTable.{files, stored_version}
use Rattle.iris_invariant.specs.Readings.{OneBlock}

-- what a block's name stands for is the block of a file that stands there
pub record Blocked (i p : ℕ) (P : File → Type 0) (u : Unfolded) : Type 0 where
  pub file : File
  pub has : P file
  pub is : u ≡ Stored (file.version p) (file.block p)
  pub some : file.version p ≢ 0

pub in_file_block : (g : FileId) (p id : ℕ) (f : File) (u : Unfolded) → in_file (Block g p) id f ≡ Some u → Blocked g.0 p (λ z. (g.0 ≡ id) × (f ≡ z)) u
in_file_block g p id f u e = by (g.0 == id) (eqb_tells g.0 id) e where
  block : (b : Bool) → (f.version p == 0) ≡ b → ((f.version p ≢ 0) ⊎ (b ≡ true)) → cond b None (Some (Stored (f.version p) (f.block p))) ≡ Some u → (g.0 ≡ id) → Blocked g.0 p (λ z. (g.0 ≡ id) × (f ≡ z)) u
  block true z w e s = absurd (cc)
  block false z (inl n) e s = record { file = f; has = (s, refl); is = cc; some = n }
  block false z (inr n) e s = absurd (cc)

  zeroes : (n : ℕ) → ((n ≢ 0) ⊎ ((n == 0) ≡ true))
  zeroes n = elim (eqb_tells n 0) [ inl h ↦ inr h.0 | inr h ↦ inl h.1 ]

  by : (b : Bool) → ((b ≡ true) × (g.0 ≡ id)) ⊎ ((b ≡ false) × (g.0 ≢ id)) → cond b (block_of_place p f) None ≡ Some u → Blocked g.0 p (λ z. (g.0 ≡ id) × (f ≡ z)) u
  by true (inl h) e = block (f.version p == 0) refl (zeroes (f.version p)) e h.1
  by true (inr h) e = absurd (let z = h.0 in cc)
  by false h e = absurd (cc)

pub either_some : (a b : Option Unfolded) (u : Unfolded) → Rattle.iris_shape.specs.Local.either a b ≡ Some u → (a ≡ Some u) ⊎ (b ≡ Some u)
either_some None b u e = inr e
either_some (Some x) b u e = inl e

inside_block : (order : List ℕ) (g : FileId) (p : ℕ) (rows : Rows) (u : Unfolded) → inside_rows order (Block g p) rows ≡ Some u → Blocked g.0 p (λ z. Has g.0 z rows) u
inside_block order g p End u e = absurd (cc)
inside_block order g p (Row id name None inside next) u e = elim (either_some _ _ u e) [
  | inl a ↦ (let b = inside_block order g p inside u a in record { file = b.file; has = inr (inl b.has); is = b.is; some = b.some })
  | inr a ↦ (let b = inside_block order g p next u a in record { file = b.file; has = inr (inr b.has); is = b.is; some = b.some })
]
inside_block order g p (Row id name (Some f) inside next) u e = elim (either_some _ _ u e) [
  | inl a ↦ (let b = in_file_block g p id f u a in record { file = b.file; has = inl (b.has.0, ap Some b.has.1); is = b.is; some = b.some })
  | inr a ↦ (let b = inside_block order g p next u a in record { file = b.file; has = inr (inr b.has); is = b.is; some = b.some })
]

pub shown_block : (order : List ℕ) (t : Table) (g : FileId) (p : ℕ) (u : Unfolded) → t.hand ≡ End → shown order t (Block g p) ≡ Some u → Blocked g.0 p (λ z. StandsInTable g.0 z t) u
unfolding shown
shown_block order t g p u hand e = by (inside_block order g p (roots t) u e) where
  by : Blocked g.0 p (λ z. Has g.0 z (roots t)) u → Blocked g.0 p (λ z. StandsInTable g.0 z t) u
  by b = record { file = b.file; has = stand b.file b.has; is = b.is; some = b.some } where
    none : (f : File) → None ≡ Some f → ⊥
    none f e = cc

    stand : (f : File) → Has g.0 f (roots t) → StandsInTable g.0 f t
    stand f (inl h) = absurd (none f h.1)
    stand f (inr (inl h)) = inl h
    stand f (inr (inr (inl h))) = absurd (none f h.1)
    stand f (inr (inr (inr (inl h)))) = inr h
    stand f (inr (inr (inr (inr h)))) = absurd (subst (Has g.0 f) hand h)

abbrev requests_of : Note → List Request
requests_of (Call who request reply) = cond (takes_step reply) (request ∷ []) []
requests_of (Got who since name answer) = []
requests_of (Put who since name bytes ok) = []
requests_of (Dropped who since name ok) = []

module _ (keys : Keys) where
  abbrev tab : Past → Table
  tab past = table_of (files keys) past

  after_same : (t : Table) (note : Note) → after_note (files keys) t note ≡ after_requests t (requests_of note)
  after_same t (Call who request reply) = by (takes_step reply) where
    by : (b : Bool) → cond b (stepped t request) t ≡ after_requests t (cond b (request ∷ []) [])
    by true = refl
    by false = refl
  after_same t (Got who since name answer) = refl
  after_same t (Put who since name bytes ok) = refl
  after_same t (Dropped who since name ok) = refl

  after_more : (t : Table) (xs ys : List Request) → after_requests (after_requests t xs) ys ≡ after_requests t (xs ++ ys)
  after_more t [] ys = refl
  after_more t (x ∷ xs) ys = after_more (stepped t x) xs ys

  -- the table now is the one of a beginning after some requests
  later : (m : ℕ) (past : Past) → (rs : List Request) × (tab past ≡ after_requests (tab (drop m past)) rs)
  later zero past = ([], refl)
  later (suc m) [] = ([], refl)
  later (suc m) (x ∷ past) = let l = later m past in (l.0 ++ requests_of x.note, after_same (tab past) x.note ∙ (ap (λ t. after_requests t (requests_of x.note)) l.1 ∙ after_more (tab (drop m past)) l.0 (requests_of x.note)))

  pub sound : (past : Past) → IsSound (tab past)
  sound past = table_keeps (files keys) IsSound sound_empty (λ t r h. sound_kept t r h) past

  drop_drop : (a b : ℕ) (past : Past) → drop a (drop b past) ≡ drop (b + a) past
  drop_drop a zero past = ap (λ z. drop z past) (let e : a ≡ 0 + a = omega arith in e)
  drop_drop a (suc b) [] = nil a ∙ sym (nil (suc b + a)) where
    nil : (a : ℕ) → ◌≡◌ {A = Past} (drop a []) []
    nil zero = refl
    nil (suc a) = refl
  drop_drop a (suc b) (x ∷ past) = drop_drop a b past ∙ ap (λ z. drop z (x ∷ past)) (let e : suc (b + a) ≡ suc b + a = omega arith in e)

  -- the older of two beginnings, and the newer
  between : (a b : ℕ) (past : Past) → a ≤ b → (rs : List Request) × (tab (drop a past) ≡ after_requests (tab (drop b past)) rs)
  between a b past le = let l = later (b - a) (drop a past) in let e : a + (b - a) ≡ b = omega (arith, le) in (l.0, l.1 ∙ ap (λ z. after_requests (tab z) l.0) (drop_drop (b - a) a past ∙ ap (λ z. drop z past) e))

  le_or : (a b : ℕ) → (a ≤ b) ⊎ (b ≤ a)
  le_or a b = grind arith

  positive : (n : ℕ) → n ≢ 0 → 0 < n
  positive n h = elim (zero_or n) [ inl e ↦ absurd (h e) | inr l ↦ l ] where
    zero_or : (n : ℕ) → (n ≡ 0) ⊎ (0 < n)
    zero_or n = grind arith

  same : (n m : ℕ) (past : Past) (i p : ℕ) (f g : File) → StandsInTable i f (tab (drop n past)) → StandsInTable i g (tab (drop m past)) → g.version p ≡ f.version p → f.version p ≢ 0 → g.block p ≡ f.block p
  same n m past i p f g sf sg e nz = elim (le_or n m) [
    | inl le ↦ (let l = between n m past le in one_block (tab (drop m past)) l.0 i g f p (sound (drop m past)) sg (subst (StandsInTable i f) l.1 sf) e (positive (f.version p) nz))
    | inr le ↦ (let l = between m n past le in sym (one_block (tab (drop n past)) l.0 i f g p (sound (drop n past)) sf (subst (StandsInTable i g) l.1 sg) (sym e) (positive (g.version p) (λ z. nz (sym e ∙ z)))))
  ]

  pub one : OneBlock (files keys)
  one past n m f p u live e = by (shown_in (files keys) (drop m past) (Block f p)) refl e where
    a : Blocked f.0 p (λ z. StandsInTable f.0 z (tab (drop n past))) u
    a = shown_block keys.order (tab (drop n past)) f p u (sound (drop n past)).hand live

    is : stored_version u ≡ a.file.version p
    is = ap stored_version a.is

    by : (o : Option Unfolded) → shown_in (files keys) (drop m past) (Block f p) ≡ o → version_of (files keys) o ≡ stored_version u → shown_in (files keys) (drop m past) (Block f p) ≡ Some u
    by None g h = absurd (a.some (sym is ∙ sym h))
    by (Some w) g h =
        let b : Blocked f.0 p (λ z. StandsInTable f.0 z (tab (drop m past))) w = shown_block keys.order (tab (drop m past)) f p w (sound (drop m past)).hand g in
        let v : b.file.version p ≡ a.file.version p = sym (ap stored_version b.is) ∙ (h ∙ is) in
        let c : b.file.block p ≡ a.file.block p = same n m past f.0 p a.file b.file a.has b.has v a.some in
        g ∙ ap Some (b.is ∙ (ap (λ z. Stored z (b.file.block p)) v ∙ (ap (λ z. Stored (a.file.version p) z) c ∙ sym a.is)))
