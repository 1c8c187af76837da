-- What stands at a path of a list of entries, after the list has changed.
use Rattle.std.proofs.Common.{◌≡◌, ℕ, zero, suc, ◌+◌, ◌<◌, ◌≤◌, List, [], ◌∷◌, ◌++◌, length, get_or, take, drop, Bool, true, false, ◌&&◌, cond, Option, Some, None, refl, sym, ◌∙◌, ap, subst, arith, append_assoc, set, Result, Ok, Err, OnOk, OnErr}
use Rattle.std.specs.Prelude.{not, position, is_some, ◌||◌}
use Rattle.std.specs.List.{filter, position_from}
use Rattle.std.proofs.lemmas.Iterator.Adapters.{position_from-zero}
use Rattle.std.proofs.lemmas.List.{drop_more, drop_all, take_more, take_all, append-nil}
use Rattle.std.proofs.lemmas.List.Quantifiers.{position-Some}
use Rattle.iris_plain.specs.Routes.{is_path, is_at_or_under, rest}
use Rattle.iris_plain.specs.Files.{Files, seen_at, seen_kind, through, on_kind, on_bytes}
use Rattle.iris_plain.specs.Entries.{kind_at}
use Rattle.iris_plain.specs.declared.files.Entry.{Entry}
use Rattle.iris_plain.specs.declared.files.Kind.{Kind}
use Rattle.iris_plain.proofs.RouteLaws.{is_tells, own, under_join, rest_join, under_split, path_tail}
use Rattle.iris_plain.specs.Steps.{has_entry_named}
use Rattle.std.specs.Str.{bytes_eq}

abbrev pub Path : Type 0
Path = List (List ℕ)

-- all entries before this one have other paths
pub look_first : (es : List Entry) (q : Path) (i : ℕ) (e : Entry) → i < length es → is_path (get_or es i e).path q ≡ true
    → ((k : ℕ) → k < i → is_path (get_or es k e).path q ≡ false) → kind_at es q ≡ Some (get_or es i e).kind
look_first [] q i e h t f = absurd (omega arith)
look_first (d ∷ es) q zero e h t f = rw t refl
look_first (d ∷ es) q (suc i) e h t f = rw (f 0 (omega arith)) (look_first es q i e (omega arith) t (λ k j. f (suc k) (omega arith)))

pub look_filter : (p : Path) (es : List Entry) (q : Path) → kind_at (filter (λ e. not (is_at_or_under p e.path)) es) q ≡ cond (is_at_or_under p q) None (kind_at es q)
look_filter p [] q = by (is_at_or_under p q) where
  by : (b : Bool) → kind_at [] q ≡ cond b None (kind_at [] q)
  by true = refl
  by false = refl
look_filter p (e ∷ es) q = by (is_path e.path q) refl (is_at_or_under p e.path) refl (look_filter p es q) where
  by : (b : Bool) → is_path e.path q ≡ b → (c : Bool) → is_at_or_under p e.path ≡ c → kind_at (filter (λ e. not (is_at_or_under p e.path)) es) q ≡ cond (is_at_or_under p q) None (kind_at es q)
      → kind_at (cond (not c) (e ∷ filter (λ e. not (is_at_or_under p e.path)) es) (filter (λ e. not (is_at_or_under p e.path)) es)) q ≡ cond (is_at_or_under p q) None (cond b (Some e.kind) (kind_at es q))
  by true x true y h = let u : is_at_or_under p q ≡ true = ap (is_at_or_under p) (sym (is_tells e.path q x)) ∙ y in rw (h, u) refl
  by true x false y h = let u : is_at_or_under p q ≡ false = ap (is_at_or_under p) (sym (is_tells e.path q x)) ∙ y in rw (x, u) refl
  by false x true y h = h
  by false x false y h = rw (x, h) refl

none_from : (es : List Entry) (q : Path) (i : ℕ) → position_from (λ e. is_path e.path q) i es ≡ None → kind_at es q ≡ None
none_from [] q i h = refl
none_from (d ∷ es) q i h = by (is_path d.path q) h (none_from es q (i + 1)) where
  by : (b : Bool) → cond b (Some i) (position_from (λ e. is_path e.path q) (i + 1) es) ≡ None → (position_from (λ e. is_path e.path q) (i + 1) es ≡ None → kind_at es q ≡ None) → cond b (Some d.kind) (kind_at es q) ≡ None
  by true e f = absurd (cc)
  by false e f = f e

-- no entry has the path
pub look_none : (es : List Entry) (q : Path) → position (λ e. is_path e.path q) es ≡ None → kind_at es q ≡ None
look_none es q h = none_from es q 0 (sym (position_from-zero (λ e. is_path e.path q) es) ∙ h)

-- where the entry of a path stands
pub look_place : (es : List Entry) (q : Path) (i : ℕ) (e : Entry) → position (λ e. is_path e.path q) es ≡ Some i → (i < length es) × (kind_at es q ≡ Some (get_or es i e).kind)
look_place es q i e h = let p = position-Some (λ e. is_path e.path q) es i e h in (p.0, look_first es q i e p.0 p.1 p.2)

on : (names : Path) (k : ℕ) (q : Path) → k < length names → take k names ++ (get_or names k [] ∷ q) ≡ take (k + 1) names ++ q
on names k q h = sym (ap (λ z. z ++ q) (take_more names k [] h) ∙ append_assoc (take k names) (get_or names k [] ∷ []) q)

-- one more name of the path that is resolved
pub seen_more : (files : Files) (names : Path) (k : ℕ) (o : Option Kind) → k < length names → files (take k names) ≡ o
    → seen_at (λ q. files (take k names ++ q)) (drop k names) ≡ through o (seen_at (λ q. files (take (k + 1) names ++ q)) (drop (k + 1) names))
seen_more files names k o h e =
    let cut : drop k names ≡ get_or names k [] ∷ drop (k + 1) names = drop_more names k [] h in
    let first : files (take k names ++ []) ≡ o = ap files (append-nil (take k names)) ∙ e in
    let here : seen_at (λ q. files (take k names ++ q)) (drop k names) ≡ through (files (take k names ++ [])) (seen_at (λ q. files (take k names ++ (get_or names k [] ∷ q))) (drop (k + 1) names)) =
    ap (seen_at (λ q. files (take k names ++ q))) cut in
    here ∙ (λ i. through (first i) (seen_at (λ q. files (on names k q h i)) (drop (k + 1) names)))

pub seen_end : (files : Files) (names : Path) (k : ℕ) → length names ≤ k → seen_at (λ q. files (take k names ++ q)) (drop k names) ≡ seen_kind (files names)
seen_end files names k h =
    ap (seen_at (λ q. files (take k names ++ q))) (drop_all k names h)
    ∙ ap (λ z. seen_kind (files z)) (append-nil (take k names) ∙ take_all k names h)

-- the first of two
abbrev pub or : Option Kind → Option Kind → Option Kind
or None other = other
or (Some k) other = Some k

pub look_append : (es fs : List Entry) (q : Path) → kind_at (es ++ fs) q ≡ or (kind_at es q) (kind_at fs q)
look_append [] fs q = refl
look_append (e ∷ es) fs q = by (is_path e.path q) (look_append es fs q) where
  by : (b : Bool) → kind_at (es ++ fs) q ≡ or (kind_at es q) (kind_at fs q) → cond b (Some e.kind) (kind_at (es ++ fs) q) ≡ or (cond b (Some e.kind) (kind_at es q)) (kind_at fs q)
  by true h = refl
  by false h = h

same_test : (x y z w : Path) → (x ≡ y → z ≡ w) → (z ≡ w → x ≡ y) → is_path x y ≡ is_path z w
same_test x y z w f g = by (is_path x y) refl (is_path z w) refl where
  by : (a : Bool) → is_path x y ≡ a → (b : Bool) → is_path z w ≡ b → a ≡ b
  by true p true q = refl
  by true p false q = let e = f (is_tells x y p) in let h : is_path z w ≡ true = ap (λ k. is_path k w) e ∙ own w in absurd (let v = sym q ∙ h in cc)
  by false p true q = let e = g (is_tells z w q) in let h : is_path x y ≡ true = ap (λ k. is_path k y) e ∙ own y in absurd (let v = sym p ∙ h in cc)
  by false p false q = refl

-- paths, one under p and the other not, differ
pub differ : (p x y : Path) → is_at_or_under p x ≡ true → is_at_or_under p y ≡ false → is_path x y ≡ false
differ p x y u v = by (is_path x y) refl where
  by : (a : Bool) → is_path x y ≡ a → a ≡ false
  by true e = let k = sym v ∙ ap (is_at_or_under p) (sym (is_tells x y e)) ∙ u in absurd (cc)
  by false e = refl

pub differ_back : (p x y : Path) → is_at_or_under p x ≡ false → is_at_or_under p y ≡ true → is_path x y ≡ false
differ_back p x y u v = by (is_path x y) refl where
  by : (a : Bool) → is_path x y ≡ a → a ≡ false
  by true e = let k = sym u ∙ ap (is_at_or_under p) (is_tells x y e) ∙ v in absurd (cc)
  by false e = refl

-- an entry below the old path, moved below the new one
pub same_moved : (olds news k q : Path) → is_at_or_under olds k ≡ true → is_at_or_under news q ≡ true → is_path (news ++ rest olds k) q ≡ is_path k (olds ++ rest news q)
same_moved olds news k q x y = same_test (news ++ rest olds k) q k (olds ++ rest news q)
    (λ e. under_split olds k x ∙ ap (λ r. olds ++ r) (sym (rest_join news (rest olds k)) ∙ ap (rest news) e))
    (λ e. ap (λ r. news ++ r) (ap (rest olds) e ∙ rest_join olds (rest news q)) ∙ sym (under_split news q y))

-- entries at and below the old path, with the new one in front
abbrev pub Moves : Path → Path → List Entry → List Entry → Type 0
Moves olds news es fresh = (q : Path) → kind_at fresh q ≡ cond (is_at_or_under news q) (kind_at es (olds ++ rest news q)) None

pub moves_none : (olds news : Path) → Moves olds news [] []
moves_none olds news q = by (is_at_or_under news q) where
  by : (b : Bool) → let none : Option Kind = None in none ≡ cond b none none
  by true = refl
  by false = refl

-- one more entry, which moves
pub moves_one : (olds news : Path) (es fresh : List Entry) (e d : Entry) → is_at_or_under olds e.path ≡ true → d.path ≡ news ++ rest olds e.path → d.kind ≡ e.kind
    → Moves olds news es fresh → Moves olds news (es ++ e ∷ []) (fresh ++ d ∷ [])
moves_one olds news es fresh e d u p k h q = look_append fresh (d ∷ []) q ∙ ap (λ o. or o (kind_at (d ∷ []) q)) (h q)
    ∙ by (is_at_or_under news q) refl where
      by : (b : Bool) → is_at_or_under news q ≡ b → or (cond b (kind_at es (olds ++ rest news q)) None) (cond (is_path d.path q) (Some d.kind) None) ≡ cond b (kind_at (es ++ e ∷ []) (olds ++ rest news q)) None
      by true y = rw (p, k, same_moved olds news e.path q u y) (sym (look_append es (e ∷ []) (olds ++ rest news q)))
      by false y = rw (p, differ news (news ++ rest olds e.path) q (under_join news _) y) refl

-- one more entry, which doesn't
pub moves_other : (olds news : Path) (es fresh : List Entry) (e : Entry) → is_at_or_under olds e.path ≡ false → Moves olds news es fresh → Moves olds news (es ++ e ∷ []) fresh
moves_other olds news es fresh e u h q = h q ∙ by (is_at_or_under news q) where
  by : (b : Bool) → cond b (kind_at es (olds ++ rest news q)) None ≡ cond b (kind_at (es ++ e ∷ []) (olds ++ rest news q)) None
  by true = sym (look_append es (e ∷ []) (olds ++ rest news q) ∙ rw (differ_back olds e.path (olds ++ rest news q) u (under_join olds _)) (nothing (kind_at es (olds ++ rest news q)))) where
    nothing : (o : Option Kind) → or o None ≡ o
    nothing None = refl
    nothing (Some k) = refl
  by false = refl

-- what stays where it is
abbrev pub stays : Path → Path → Entry → Bool
stays olds news e = not (is_at_or_under olds e.path) && not (is_at_or_under news e.path)

pub look_stays : (olds news : Path) (es : List Entry) (q : Path) → kind_at (filter (stays olds news) es) q ≡ cond (is_at_or_under news q) None (cond (is_at_or_under olds q) None (kind_at es q))
look_stays olds news [] q = by (is_at_or_under news q) (is_at_or_under olds q) where
  by : (a b : Bool) → kind_at [] q ≡ cond a None (cond b None (kind_at [] q))
  by true b = refl
  by false true = refl
  by false false = refl
look_stays olds news (e ∷ es) q = by (is_path e.path q) refl (is_at_or_under olds e.path) refl (is_at_or_under news e.path) refl (look_stays olds news es q) where
  by : (b : Bool) → is_path e.path q ≡ b → (c : Bool) → is_at_or_under olds e.path ≡ c → (d : Bool) → is_at_or_under news e.path ≡ d
      → kind_at (filter (stays olds news) es) q ≡ cond (is_at_or_under news q) None (cond (is_at_or_under olds q) None (kind_at es q))
      → kind_at (cond (not c && not d) (e ∷ filter (stays olds news) es) (filter (stays olds news) es)) q ≡ cond (is_at_or_under news q) None (cond (is_at_or_under olds q) None (cond b (Some e.kind) (kind_at es q)))
  by true x true y d z h = let u : is_at_or_under olds q ≡ true = ap (is_at_or_under olds) (sym (is_tells e.path q x)) ∙ y in rw (h, u) refl
  by true x false y true z h = let u : is_at_or_under news q ≡ true = ap (is_at_or_under news) (sym (is_tells e.path q x)) ∙ z in rw (h, u) refl
  by true x false y false z h =
      let u : is_at_or_under olds q ≡ false = ap (is_at_or_under olds) (sym (is_tells e.path q x)) ∙ y in
      let v : is_at_or_under news q ≡ false = ap (is_at_or_under news) (sym (is_tells e.path q x)) ∙ z in rw (x, u, v) refl
  by false x true y d z h = h
  by false x false y true z h = h
  by false x false y false z h = rw (x, h) refl

-- what moved, before what stays
pub look_shifted : (olds news : Path) (es fresh : List Entry) (q : Path) → Moves olds news es fresh
    → kind_at (fresh ++ filter (stays olds news) es) q ≡ cond (is_at_or_under news q) (kind_at es (olds ++ rest news q)) (cond (is_at_or_under olds q) None (kind_at es q))
look_shifted olds news es fresh q h = look_append fresh _ q ∙ ap (λ o. or o (kind_at (filter (stays olds news) es) q)) (h q) ∙ ap (λ o. or (cond (is_at_or_under news q) (kind_at es (olds ++ rest news q)) None) o) (look_stays olds news es q)
    ∙ by (is_at_or_under news q) where
      nothing : (o : Option Kind) → or o None ≡ o
      nothing None = refl
      nothing (Some k) = refl

      by : (b : Bool) → or (cond b (kind_at es (olds ++ rest news q)) None) (cond b None (cond (is_at_or_under olds q) None (kind_at es q))) ≡ cond b (kind_at es (olds ++ rest news q)) (cond (is_at_or_under olds q) None (kind_at es q))
      by true = nothing _
      by false = refl

-- the names of a directory, with one more entry
pub names_more : (es : List Entry) (e : Entry) (names : Path) (m : List ℕ) → is_some (kind_at (es ++ e ∷ []) (names ++ m ∷ [])) ≡ (is_some (kind_at es (names ++ m ∷ [])) || is_path e.path (names ++ m ∷ []))
names_more es e names m = ap is_some (look_append es (e ∷ []) (names ++ m ∷ [])) ∙ by (kind_at es (names ++ m ∷ [])) (is_path e.path (names ++ m ∷ [])) where
  by : (o : Option Kind) (b : Bool) → is_some (or o (cond b (Some e.kind) None)) ≡ (is_some o || b)
  by (Some k) true = refl
  by (Some k) false = refl
  by None true = refl
  by None false = refl

-- one more entry that is no child leaves the names
pub names_skip : (es : List Entry) (i : ℕ) (e : Entry) (names : Path) → e ≡ get_or es i e → i < length es → ((n : List ℕ) → is_path e.path (names ++ n ∷ []) ≡ false)
    → has_entry_named (kind_at (take (i + 1) es)) names ≡ has_entry_named (kind_at (take i es)) names
names_skip es i e names at h f = λ j m. (ap (λ xs. is_some (kind_at xs (names ++ m ∷ []))) (take_more es i e h ∙ ap (λ x. take i es ++ x ∷ []) (sym at)) ∙ names_more (take i es) e names m
    ∙ ap (λ b. is_some (kind_at (take i es) (names ++ m ∷ [])) || b) (f m) ∙ or_none (is_some (kind_at (take i es) (names ++ m ∷ [])))) j where
      or_none : (b : Bool) → (b || false) ≡ b
      or_none true = refl
      or_none false = refl

-- one more child adds its name
pub names_push : (es : List Entry) (i : ℕ) (e : Entry) (names : Path) (n : List ℕ) → e ≡ get_or es i e → i < length es → e.path ≡ names ++ n ∷ []
    → has_entry_named (kind_at (take (i + 1) es)) names ≡ (λ m. has_entry_named (kind_at (take i es)) names m || bytes_eq m n)
names_push es i e names n at h p = λ j m. (ap (λ xs. is_some (kind_at xs (names ++ m ∷ []))) (take_more es i e h ∙ ap (λ x. take i es ++ x ∷ []) (sym at)) ∙ names_more (take i es) e names m
    ∙ ap (λ b. is_some (kind_at (take i es) (names ++ m ∷ [])) || b) (ap (λ k. is_path k (names ++ m ∷ [])) p ∙ path_tail names n m)) j

-- the entry at a place moves
pub moves_push : (olds news : Path) (es fresh out : List Entry) (i : ℕ) (e d : Entry) → e ≡ get_or es i e → i < length es → is_at_or_under olds e.path ≡ true → d.path ≡ news ++ rest olds e.path → d.kind ≡ e.kind
    → out ≡ fresh ++ d ∷ [] → Moves olds news (take i es) fresh → Moves olds news (take (i + 1) es) out
moves_push olds news es fresh out i e d at h u p k o m =
    let more : take (i + 1) es ≡ take i es ++ e ∷ [] = take_more es i e h ∙ ap (λ x. take i es ++ x ∷ []) (sym at) in
    let P : List Entry → Type 0 = λ xs. Moves olds news xs out in
    let Q : List Entry → Type 0 = λ xs. Moves olds news (take i es ++ e ∷ []) xs in
    subst P (sym more) (subst Q (sym o) (moves_one olds news (take i es) fresh e d u p k m))

-- the entry at a place doesn't
pub moves_skip : (olds news : Path) (es fresh out : List Entry) (i : ℕ) (e : Entry) → e ≡ get_or es i e → i < length es → is_at_or_under olds e.path ≡ false
    → out ≡ fresh → Moves olds news (take i es) fresh → Moves olds news (take (i + 1) es) out
moves_skip olds news es fresh out i e at h u o m =
    let more : take (i + 1) es ≡ take i es ++ e ∷ [] = take_more es i e h ∙ ap (λ x. take i es ++ x ∷ []) (sym at) in
    let P : List Entry → Type 0 = λ xs. Moves olds news xs out in
    let Q : List Entry → Type 0 = λ xs. Moves olds news (take i es ++ e ∷ []) xs in
    subst P (sym more) (subst Q (sym o) (moves_other olds news (take i es) fresh e u m))

-- a file changed where it stands
set_first : (es : List Entry) (names : Path) (i : ℕ) (d e : Entry) (q : Path) → i < length es → names ≡ (get_or es i e).path → d.path ≡ names → ((k : ℕ) → k < i → is_path (get_or es k e).path names ≡ false)
    → kind_at (set es i d) q ≡ cond (is_path names q) (Some d.kind) (kind_at es q)
set_first [] names i d e q h n p f = absurd (omega arith)
set_first (a ∷ es) names zero d e q h n p f = rw (p, sym n) (by (is_path names q)) where
  by : (b : Bool) → cond b (Some d.kind) (kind_at es q) ≡ cond b (Some d.kind) (cond b (Some a.kind) (kind_at es q))
  by true = refl
  by false = refl
set_first (a ∷ es) names (suc i) d e q h n p f =
    ap (λ o. cond (is_path a.path q) (Some a.kind) o) (set_first es names i d e q (omega arith) n p (λ k j. f (suc k) (omega arith)))
    ∙ by (is_path a.path q) refl (is_path names q) refl where
      by : (b : Bool) → is_path a.path q ≡ b → (c : Bool) → is_path names q ≡ c → cond b (Some a.kind) (cond c (Some d.kind) (kind_at es q)) ≡ cond c (Some d.kind) (cond b (Some a.kind) (kind_at es q))
      by true x true y = absurd (let z : is_path a.path names ≡ true = ap (is_path a.path) (is_tells names q y) ∙ x in let w = sym (f 0 (omega arith)) ∙ z in cc)
      by true x false y = refl
      by false x c y = refl

pub reset_set : (es : List Entry) (names : Path) (i : ℕ) (d e : Entry) (f : List ℕ → List ℕ) (q : Path) → position (λ e. is_path e.path names) es ≡ Some i → e ≡ get_or es i e → d.path ≡ e.path → d.kind ≡ on_bytes f e.kind
    → kind_at (set es i d) q ≡ cond (is_path names q) (on_kind f (kind_at es q)) (kind_at es q)
reset_set es names i d e f q h at p k =
    let s = position-Some (λ e. is_path e.path names) es i e h in
    let same : names ≡ (get_or es i e).path = sym (is_tells (get_or es i e).path names s.1) in
    let path : d.path ≡ names = p ∙ ap (λ (x : Entry). x.path) at ∙ sym same in
    let there : kind_at es names ≡ Some e.kind = (look_place es names i e h).1 ∙ ap (λ (x : Entry). Some x.kind) (sym at) in
    set_first es names i d e q s.0 same path s.2 ∙ by (is_path names q) refl there where
      by : (b : Bool) → is_path names q ≡ b → kind_at es names ≡ Some e.kind → cond b (Some d.kind) (kind_at es q) ≡ cond b (on_kind f (kind_at es q)) (kind_at es q)
      by true x there = ap Some k ∙ ap (on_kind f) (sym there ∙ ap (kind_at es) (is_tells names q x))
      by false x there = refl

pub reset_none : (es : List Entry) (names : Path) (f : List ℕ → List ℕ) (q : Path) → position (λ e. is_path e.path names) es ≡ None
    → kind_at es q ≡ cond (is_path names q) (on_kind f (kind_at es q)) (kind_at es q)
reset_none es names f q h = by (is_path names q) refl (look_none es names h) where
  by : (b : Bool) → is_path names q ≡ b → kind_at es names ≡ None → kind_at es q ≡ cond b (on_kind f (kind_at es q)) (kind_at es q)
  by true x n = let e : kind_at es q ≡ None = ap (kind_at es) (sym (is_tells names q x)) ∙ n in e ∙ ap (on_kind f) (sym e)
  by false x n = refl

-- an entry put back as it was
pub set_back : (es : List Entry) (i : ℕ) (d e : Entry) → e ≡ get_or es i e → i < length es → d.path ≡ e.path → d.kind ≡ e.kind → set es i d ≡ es
set_back [] i d e at h p k = refl
set_back (a ∷ es) zero d e at h p k = λ j. record { path = (p ∙ ap (λ (x : Entry). x.path) at) j; kind = (k ∙ ap (λ (x : Entry). x.kind) at) j } ∷ es
set_back (a ∷ es) (suc i) d e at h p k = ap (λ x. a ∷ x) (set_back es i d e at (omega arith) p k)

pub on_ok : {T E : Type 0} (r : Result T E) (P Q : Type 0) → (P → Q) → OnOk r P → OnOk r Q
on_ok (Ok x) P Q f h = f h
on_ok (Err e) P Q f h = tt

pub on_err : {T E : Type 0} (r : Result T E) (P Q : Type 0) → (P → Q) → OnErr r P → OnErr r Q
on_err (Ok x) P Q f h = tt
on_err (Err e) P Q f h = f h
