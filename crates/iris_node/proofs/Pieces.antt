-- A field that is read is the field that was written, and what was written is read again.
use Rattle.std.proofs.Common.{◌≡◌, ℕ, zero, suc, ◌+◌, ◌^◌, ◌<◌, ◌≤◌, Bool, true, false, cond, ltb, List, [], ◌∷◌, ◌++◌, length, get_or, take, drop, Option, Some, None, refl, sym, ap, subst, ◌∙◌, append_assoc, arith, inl, inr}
use Rattle.std.specs.Prelude.{IsUtf8}
use Rattle.std.specs.Str.{is_utf8}
use Rattle.std.specs.Int.{Width, w32, w64, byte_len, from_be_bytes, to_be_bytes}
use Rattle.std.proofs.lemmas.Bool.{cases_lt, ltb-false, le-ltb}
use Rattle.std.proofs.lemmas.List.{take_at, drop_at, take-append-drop, length-append, length-take, get_or-drop, get_or-take, get_or_past}
use Rattle.std.proofs.lemmas.Nat.{be_bytes_4, be_bytes_8, from_be_bytes-to_be_bytes_4, from_be_bytes-to_be_bytes_8}
use Rattle.std.proofs.lemmas.Str.{IsUtf8-from_is_utf8, is_utf8-from_IsUtf8}
use Rattle.iris_name.specs.declared.name.Hash32.{Hash32}
use Rattle.iris_node.specs.declared.node.Side.{Side}
use Rattle.iris_node.specs.declared.node.Side.TheVariants.{Fold, Below}
use Rattle.iris_node.specs.declared.node.Link.{Link}
use Rattle.iris_node.specs.Nodes.{FitsHash, FitsLink, FitsSide}
use Rattle.iris_node.specs.Spelling.{link, spelled_side, named}
use Rattle.iris_node.specs.Reading.{◌>>=◌, number_at, read_byte, hash_at, link_at, side_at, text_in, named_at}
use Rattle.iris_node.specs.Unfolded.{id_of}

abbrev pub IsBytes : List ℕ → Type 0
IsBytes bytes = (i : ℕ) → get_or bytes i 0 < 256

IsBytes-drop : (n : ℕ) (bytes : List ℕ) → IsBytes bytes → IsBytes (drop n bytes)
IsBytes-drop n bytes h i = rw get_or-drop (h (n + i))

IsBytes-take : (n : ℕ) (bytes : List ℕ) → IsBytes bytes → IsBytes (take n bytes)
IsBytes-take n bytes h i =
    elim (cases_lt i n) [
      | inl lt ↦ rw (get_or-take n bytes i 0 lt) (h i)
      | inr le ↦ rw (get_or_past (take n bytes) i 0 (omega (arith, length-take n bytes))) (omega arith)
    ]

-- the value of a step that did not fail
pub bind_some : {A B : Type 0} (r : Option A) (f : A → Option B) (y : B) → (r >>= f) ≡ Some y → (x : A) × (r ≡ Some x) × (f x ≡ Some y)
bind_some (Some x) f y e = (x, refl, e)
bind_some None f y e = absurd cc

-- a test that did not fail
pub guard_some : {A : Type 0} (b : Bool) (x y : A) → cond b None (Some x) ≡ Some y → (b ≡ false) × (x ≡ y)
guard_some true x y e = absurd cc
guard_some false x y e = (refl, cc)

-- a test that was met
pub met_some : {A : Type 0} (b : Bool) (x y : A) → cond b (Some x) None ≡ Some y → (b ≡ true) × (x ≡ y)
met_some true x y e = (refl, cc)
met_some false x y e = absurd cc

abbrev done : {A : Type 0} → A → Option A
done x = Some x

pub some_is : {A : Type 0} (x y : A) → done x ≡ done y → x ≡ y
some_is x y e = cc

-- what a reader took from the front
pub record Takes (bytes text rest : List ℕ) : Type 0 where
  pub parts : bytes ≡ text ++ rest
  pub rest_fits : IsBytes rest

pub Takes-then : (a x b y c : List ℕ) → Takes a x b → Takes b y c → Takes a (x ++ y) c
Takes-then a x b y c p q = record { parts = p.parts ∙ ap (λ (t : List ℕ). x ++ t) q.parts ∙ sym (append_assoc x y c); rest_fits = q.rest_fits }

Takes-more : (b : ℕ) (a x c : List ℕ) → Takes a x c → Takes (b ∷ a) (b ∷ x) c
Takes-more b a x c t = record { parts = ap (λ (w : List ℕ). b ∷ w) t.parts; rest_fits = t.rest_fits }

pub IsBytes-rest : (b : ℕ) (bytes : List ℕ) → IsBytes (b ∷ bytes) → IsBytes bytes
IsBytes-rest b bytes h i = h (suc i)

-- ---- numbers

pub record IsWide (w : Width) (limit : ℕ) : Type 0 where
  pub len : (n : ℕ) → length (to_be_bytes w n) ≡ byte_len w
  pub back : (bytes : List ℕ) → length bytes ≡ byte_len w → IsBytes bytes → to_be_bytes w (from_be_bytes w bytes) ≡ bytes
  pub again : (n : ℕ) → n < limit → from_be_bytes w (to_be_bytes w n) ≡ n
  pub below : (bytes : List ℕ) → IsBytes bytes → from_be_bytes w bytes < limit

pub wide32 : IsWide w32 (2 ^ 32)
wide32 = record {
  len = λ n. refl;
  back = λ bytes len fits. be_bytes_4 bytes _ len fits refl;
  again = λ n lt. from_be_bytes-to_be_bytes_4 n lt;
  below = λ bytes fits. omega (arith, fits 0, fits 1, fits 2, fits 3);
}

pub wide64 : IsWide w64 (2 ^ 64)
wide64 = record {
  len = λ n. refl;
  back = λ bytes len fits. be_bytes_8 bytes _ len fits refl;
  again = λ n lt. from_be_bytes-to_be_bytes_8 n lt;
  below = λ bytes fits. omega (arith, fits 0, fits 1, fits 2, fits 3, fits 4, fits 5, fits 6, fits 7);
}

pub number_takes : (w : Width) (limit : ℕ) (wide : IsWide w limit) (bytes : List ℕ) (n : ℕ) (rest : List ℕ) → IsBytes bytes → number_at w bytes ≡ Some (n, rest) → Takes bytes (to_be_bytes w n) rest × (n < limit)
number_takes w limit wide bytes n rest fits e =
    let g = guard_some (ltb (length bytes) (byte_len w)) (from_be_bytes w (take (byte_len w) bytes), drop (byte_len w) bytes) (n, rest) e in
    let long : byte_len w ≤ length bytes = ltb-false _ _ g.0 in
    let n-is : from_be_bytes w (take (byte_len w) bytes) ≡ n = ap (λ (p : ℕ × List ℕ). p.0) g.1 in
    let rest-is : drop (byte_len w) bytes ≡ rest = ap (λ (p : ℕ × List ℕ). p.1) g.1 in
    let front : to_be_bytes w n ≡ take (byte_len w) bytes = rw (← n-is) (wide.back (take (byte_len w) bytes) (omega (arith, length-take (byte_len w) bytes)) (IsBytes-take (byte_len w) bytes fits)) in
    (record { parts = rw (front, ← rest-is) (sym (take-append-drop (byte_len w) bytes)); rest_fits = rw (← rest-is) (IsBytes-drop (byte_len w) bytes fits) }, rw (← n-is) (wide.below (take (byte_len w) bytes) (IsBytes-take (byte_len w) bytes fits)))

pub number_again : (w : Width) (limit : ℕ) (wide : IsWide w limit) (n : ℕ) (rest : List ℕ) → n < limit → number_at w (to_be_bytes w n ++ rest) ≡ Some (n, rest)
number_again w limit wide n rest lt =
    let len = wide.len n in
    let long : ltb (length (to_be_bytes w n ++ rest)) (byte_len w) ≡ false = le-ltb _ _ (omega (arith, length-append (to_be_bytes w n) rest)) in
    rw (long, take_at (to_be_bytes w n) rest (byte_len w) len, drop_at (to_be_bytes w n) rest (byte_len w) len, wide.again n lt) refl

-- ---- one byte

pub byte_takes : (bytes : List ℕ) (x : ℕ × List ℕ) → IsBytes bytes → read_byte bytes ≡ Some x → Takes bytes (x.0 ∷ []) x.1
byte_takes [] x fits e = absurd cc
byte_takes (b ∷ bytes) x fits e =
    subst (λ (y : ℕ × List ℕ). Takes (b ∷ bytes) (y.0 ∷ []) y.1) (some_is (b, bytes) x e) (record { parts = refl; rest_fits = IsBytes-rest b bytes fits })

-- ---- hashes

pub hash_takes : (bytes : List ℕ) (x : Hash32 × List ℕ) → IsBytes bytes → hash_at bytes ≡ Some x → Takes bytes x.0.0 x.1 × FitsHash x.0
unfolding hash_at
hash_takes bytes x fits e =
    let made : Hash32 × List ℕ = (record { 0 = take 32 bytes }, drop 32 bytes) in
    let g = guard_some (ltb (length bytes) 32) made x e in
    let long : 32 ≤ length bytes = ltb-false _ _ g.0 in
    let len : length (take 32 bytes) ≡ 32 = omega (arith, length-take 32 bytes) in
    subst (λ (y : Hash32 × List ℕ). Takes bytes y.0.0 y.1 × FitsHash y.0) g.1 (record { parts = sym (take-append-drop 32 bytes); rest_fits = IsBytes-drop 32 bytes fits }, len)

pub hash_again : (h : Hash32) (rest : List ℕ) → FitsHash h → hash_at (h.0 ++ rest) ≡ Some (h, rest)
unfolding hash_at
hash_again h rest len =
    let long : ltb (length (h.0 ++ rest)) 32 ≡ false = le-ltb _ _ (omega (arith, length-append h.0 rest)) in
    rw (long, take_at h.0 rest 32 len, drop_at h.0 rest 32 len) refl

-- ---- links

pub link_takes : (bytes : List ℕ) (x : Option Link × List ℕ) → IsBytes bytes → link_at bytes ≡ Some x → Takes bytes (link x.0) x.1 × FitsLink x.0
unfolding link_at
link_takes [] x fits e = absurd cc
link_takes (zero ∷ bytes) x fits e =
    subst (λ (y : Option Link × List ℕ). Takes (0 ∷ bytes) (link y.0) y.1 × FitsLink y.0) (some_is (None, bytes) x e) (record { parts = refl; rest_fits = IsBytes-rest 0 bytes fits }, tt)
link_takes (suc zero ∷ bytes) x fits e =
    let L = λ (i : ℕ) (h : Hash32) (n : ℕ). let l : Link = record { id = id_of i; hash = h; blocks = n } in l in
    let a = bind_some (number_at w64 bytes) (λ id. hash_at id.1 >>= λ hash. number_at w64 hash.1 >>= λ blocks. Some (Some (L id.0 hash.0 blocks.0), blocks.1)) x e in
    let b = bind_some (hash_at a.0.1) (λ hash. number_at w64 hash.1 >>= λ blocks. Some (Some (L a.0.0 hash.0 blocks.0), blocks.1)) x a.2 in
    let c = bind_some (number_at w64 b.0.1) (λ blocks. Some (Some (L a.0.0 b.0.0 blocks.0), blocks.1)) x b.2 in
    let t0 = number_takes w64 (2 ^ 64) wide64 bytes a.0.0 a.0.1 (IsBytes-rest 1 bytes fits) a.1 in
    let t1 = hash_takes a.0.1 b.0 t0.0.rest_fits b.1 in
    let t2 = number_takes w64 (2 ^ 64) wide64 b.0.1 c.0.0 c.0.1 t1.0.rest_fits c.1 in
    let e12 = Takes-then a.0.1 b.0.0.0 b.0.1 (to_be_bytes w64 c.0.0) c.0.1 t1.0 t2.0 in
    let e02 = Takes-then bytes (to_be_bytes w64 a.0.0) a.0.1 (b.0.0.0 ++ to_be_bytes w64 c.0.0) c.0.1 t0.0 e12 in
    let made : Option Link × List ℕ = (Some (L a.0.0 b.0.0 c.0.0), c.0.1) in
    subst (λ (y : Option Link × List ℕ). Takes (1 ∷ bytes) (link y.0) y.1 × FitsLink y.0) (some_is made x c.2)
    (Takes-more 1 bytes (to_be_bytes w64 a.0.0 ++ (b.0.0.0 ++ to_be_bytes w64 c.0.0)) c.0.1 e02, (t0.1, t1.1, t2.1))
link_takes (suc (suc b) ∷ bytes) x fits e = absurd cc

pub link_again : (o : Option Link) (rest : List ℕ) → FitsLink o → link_at (link o ++ rest) ≡ Some (o, rest)
unfolding link_at
link_again None rest h = refl
link_again (Some l) rest h =
    let regrouped : link (Some l) ++ rest ≡ 1 ∷ (to_be_bytes w64 l.id.0 ++ (l.hash.0 ++ (to_be_bytes w64 l.blocks ++ rest))) =
    ap (λ (w : List ℕ). 1 ∷ w) (append_assoc (to_be_bytes w64 l.id.0) (l.hash.0 ++ to_be_bytes w64 l.blocks) rest ∙ ap (λ (w : List ℕ). to_be_bytes w64 l.id.0 ++ w) (append_assoc l.hash.0 (to_be_bytes w64 l.blocks) rest)) in
    ap link_at regrouped ∙ rw (number_again w64 (2 ^ 64) wide64 l.id.0 (l.hash.0 ++ (to_be_bytes w64 l.blocks ++ rest)) h.0, hash_again l.hash (to_be_bytes w64 l.blocks ++ rest) h.1, number_again w64 (2 ^ 64) wide64 l.blocks rest h.2) refl

-- ---- sides

pub side_takes : (bytes : List ℕ) (x : Side × List ℕ) → IsBytes bytes → side_at bytes ≡ Some x → Takes bytes (spelled_side x.0) x.1 × FitsSide x.0
unfolding side_at
side_takes [] x fits e = absurd cc
side_takes (zero ∷ bytes) x fits e =
    let a = bind_some (number_at w64 bytes) (λ version. Some (Fold version.0, version.1)) x e in
    let t = number_takes w64 (2 ^ 64) wide64 bytes a.0.0 a.0.1 (IsBytes-rest 0 bytes fits) a.1 in
    let made : Side × List ℕ = (Fold a.0.0, a.0.1) in
    subst (λ (y : Side × List ℕ). Takes (0 ∷ bytes) (spelled_side y.0) y.1 × FitsSide y.0) (some_is made x a.2) (Takes-more 0 bytes (to_be_bytes w64 a.0.0) a.0.1 t.0, t.1)
side_takes (suc zero ∷ bytes) x fits e =
    let a = bind_some (hash_at bytes) (λ hash. Some (Below hash.0, hash.1)) x e in
    let t = hash_takes bytes a.0 (IsBytes-rest 1 bytes fits) a.1 in
    let made : Side × List ℕ = (Below a.0.0, a.0.1) in
    subst (λ (y : Side × List ℕ). Takes (1 ∷ bytes) (spelled_side y.0) y.1 × FitsSide y.0) (some_is made x a.2) (Takes-more 1 bytes a.0.0.0 a.0.1 t.0, t.1)
side_takes (suc (suc b) ∷ bytes) x fits e = absurd cc

pub side_again : (s : Side) (rest : List ℕ) → FitsSide s → side_at (spelled_side s ++ rest) ≡ Some (s, rest)
unfolding side_at
side_again (Fold v) rest h = rw (number_again w64 (2 ^ 64) wide64 v rest h) refl
side_again (Below b) rest h = rw (hash_again b rest h) refl

-- ---- names

text_is : (bytes name : List ℕ) → text_in bytes ≡ Some name → (is_utf8 bytes ≡ true) × (bytes ≡ name)
text_is bytes name e = met_some (is_utf8 bytes) bytes name e

pub named_takes : (bytes : List ℕ) (x : List ℕ × List ℕ) → IsBytes bytes → named_at bytes ≡ Some x → Takes bytes (named x.0) x.1 × IsUtf8 x.0
unfolding named_at
named_takes bytes x fits e =
    let a = bind_some (read_byte bytes) (λ len. cond (ltb (length len.1) len.0) None (text_in (take len.0 len.1) >>= λ name. Some (name, drop len.0 len.1))) x e in
    let n = a.0.0 in
    let r = a.0.1 in
    let t = byte_takes bytes a.0 fits a.1 in
    let g = by (ltb (length r) n) (text_in (take n r) >>= λ name. Some (name, drop n r)) a.2 in
    let long : n ≤ length r = ltb-false _ _ g.0 in
    let b = bind_some (text_in (take n r)) (λ name. Some (name, drop n r)) x g.1 in
    let u = text_is (take n r) b.0 b.1 in
    let len : length (take n r) ≡ n = omega (arith, length-take n r) in
    let second : Takes r (take n r) (drop n r) = record { parts = sym (take-append-drop n r); rest_fits = IsBytes-drop n r t.rest_fits } in
    let both = Takes-then bytes (n ∷ []) r (take n r) (drop n r) t second in
    let whole : Takes bytes (named (take n r)) (drop n r) = subst (λ (k : ℕ). Takes bytes (k ∷ take n r) (drop n r)) (sym len) both in
    let made : List ℕ × List ℕ = (b.0, drop n r) in
    let utf8 : IsUtf8 (take n r) = IsUtf8-from_is_utf8 (take n r) u.0 in
    subst (λ (y : List ℕ × List ℕ). Takes bytes (named y.0) y.1 × IsUtf8 y.0) (some_is made x b.2)
    (subst (λ (w : List ℕ). Takes bytes (named w) (drop n r) × IsUtf8 w) u.1 (whole, utf8))
  where
    by : (t : Bool) (o : Option (List ℕ × List ℕ)) → cond t None o ≡ Some x → (t ≡ false) × (o ≡ Some x)
    by true o h = absurd cc
    by false o h = (refl, h)

pub named_again : (name rest : List ℕ) → IsUtf8 name → named_at (named name ++ rest) ≡ Some (name, rest)
unfolding named_at
named_again name rest u =
    let long : ltb (length (name ++ rest)) (length name) ≡ false = le-ltb _ _ (omega (arith, length-append name rest)) in
    rw (long, take_at name rest (length name) refl, drop_at name rest (length name) refl, is_utf8-from_IsUtf8 name u) refl
