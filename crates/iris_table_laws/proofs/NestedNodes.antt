-- Nodes one inside another, each with its name; no name twice.
use Rattle.std.proofs.Common.{◌≡◌, ◌⊎◌, inl, inr, ℕ, ◌+◌, ◌≤◌, Bool, true, false, cond, Some, refl, sym, ◌∙◌, ap, subst, arith}
use Rattle.std.specs.Prelude.{◌==◌}
use Rattle.std.proofs.lemmas.Bool.Decides.{nat_tests}
use Rattle.iris_name.specs.Names.{same_name}
use Rattle.iris_name.specs.declared.name.Name.{Name}
use Rattle.iris_name.specs.declared.name.Name.TheVariants.{Entry, Part, Block}
use Rattle.iris_node.specs.Trees.{IsAbove, node_name}
use Rattle.iris_node.specs.Unfolded.{Unfolded, Absent, Folder, Leaf, Even, Split, Stored, id_of}

pub data Nest : Type 0 where
  Bare : Nest
  Around : (node : Unfolded) (name : Name) (kids : Nest) → Nest
  Both : (left right : Nest) → Nest

-- a node with its name and what is inside it stands in a nest
abbrev pub Holds : Unfolded → Name → Nest → Nest → Type 0
Holds w n k Bare = ⊥
Holds w n k (Around u m c) = ((w ≡ u) × (n ≡ m) × (k ≡ c)) ⊎ Holds w n k c
Holds w n k (Both a b) = Holds w n k a ⊎ Holds w n k b

-- so it does, and inside no other
abbrev pub Tops : Unfolded → Name → Nest → Nest → Type 0
Tops w n k Bare = ⊥
Tops w n k (Around u m c) = (w ≡ u) × (n ≡ m) × (k ≡ c)
Tops w n k (Both a b) = Tops w n k a ⊎ Tops w n k b

-- how often a name stands in a nest
abbrev pub many : Name → Nest → ℕ
many n Bare = 0
many n (Around u m c) = cond (same_name n m) 1 0 + many n c
many n (Both a b) = many n a + many n b

pub eq_self : (a : ℕ) → (a == a) ≡ true
eq_self a = by (a == a) refl where
  by : (b : Bool) → (a == a) ≡ b → b ≡ true
  by true e = refl
  by false e = absurd (grind (arith, nat_tests))

same_self : (n : Name) → same_name n n ≡ true
same_self (Entry i) = eq_self i.0
same_self (Part f l i) = rw (eq_self f.0, eq_self l, eq_self i) refl
same_self (Block f p) = rw (eq_self f.0, eq_self p) refl

one_here : (n m : Name) → n ≡ m → 1 ≤ cond (same_name n m) 1 0
one_here n m e = subst (λ z. 1 ≤ cond (same_name n z) 1 0) e (rw (same_self n) (omega arith))

pub held_counts : (w : Unfolded) (n : Name) (k x : Nest) → Holds w n k x → 1 ≤ many n x
held_counts w n k Bare h = absurd h
held_counts w n k (Around u m c) h = elim h [
  | inl t ↦ (let o = one_here n m t.1 in omega (arith, o))
  | inr t ↦ (let o = held_counts w n k c t in omega (arith, o))
]
held_counts w n k (Both a b) h = elim h [
  | inl t ↦ (let o = held_counts w n k a t in omega (arith, o))
  | inr t ↦ (let o = held_counts w n k b t in omega (arith, o))
]

pub top_held : (w : Unfolded) (n : Name) (k x : Nest) → Tops w n k x → Holds w n k x
top_held w n k Bare h = absurd h
top_held w n k (Around u m c) h = inl h
top_held w n k (Both a b) h = elim h [ inl t ↦ inl (top_held w n k a t) | inr t ↦ inr (top_held w n k b t) ]

-- what stands inside a node stands in the nest
pub held_inside : (u w : Unfolded) (p n : Name) (k c x : Nest) → Holds u p k x → Tops w n c k → Holds w n c x
held_inside u w p n k c Bare h t = absurd h
held_inside u w p n k c (Around v j d) h t = elim h [
  | inl s ↦ inr (subst (λ z. Holds w n c z) s.2 (top_held w n c k t))
  | inr s ↦ inr (held_inside u w p n k c d s t)
]
held_inside u w p n k c (Both a b) h t = elim h [ inl s ↦ inl (held_inside u w p n k c a s t) | inr s ↦ inr (held_inside u w p n k c b s t) ]

-- a name that stands once is one node's
pub one_node : (w v : Unfolded) (n : Name) (k d x : Nest) → many n x ≤ 1 → Holds w n k x → Holds v n d x → w ≡ v
one_node w v n k d Bare o h g = absurd h
one_node w v n k d (Around u m c) o h g = elim h [
  | inl s ↦ elim g [
    | inl t ↦ s.0 ∙ sym t.0
    | inr t ↦ (let a = one_here n m s.1 in let b = held_counts v n d c t in absurd (omega (arith, o, a, b)))
  ]
  | inr s ↦ elim g [
    | inl t ↦ (let a = one_here n m t.1 in let b = held_counts w n k c s in absurd (omega (arith, o, a, b)))
    | inr t ↦ one_node w v n k d c (omega (arith, o)) s t
  ]
]
one_node w v n k d (Both a b) o h g = elim h [
  | inl s ↦ elim g [
    | inl t ↦ one_node w v n k d a (omega (arith, o)) s t
    | inr t ↦ (let x = held_counts w n k a s in let y = held_counts v n d b t in absurd (omega (arith, o, x, y)))
  ]
  | inr s ↦ elim g [
    | inl t ↦ (let x = held_counts w n k b s in let y = held_counts v n d a t in absurd (omega (arith, o, x, y)))
    | inr t ↦ one_node w v n k d b (omega (arith, o)) s t
  ]
]

-- a name inside no other and inside one stands twice
pub twice : (w v u : Unfolded) (n p : Name) (c d k x : Nest) → Tops w n c x → Holds u p k x → Tops v n d k → 2 ≤ many n x
twice w v u n p c d k Bare a h t = absurd a
twice w v u n p c d k (Around y m e) a h t =
    let o = one_here n m a.1 in
    elim h [
      | inl s ↦ (let q = held_counts v n d e (subst (λ z. Holds v n d z) s.2 (top_held v n d k t)) in omega (arith, o, q))
      | inr s ↦ (let q = held_counts v n d e (held_inside u v p n k d e s t) in omega (arith, o, q))
    ]
twice w v u n p c d k (Both e f) a h t = elim a [
  | inl y ↦ elim h [
    | inl s ↦ (let q = twice w v u n p c d k e y s t in omega (arith, q))
    | inr s ↦ (let q = held_counts w n c e (top_held w n c e y) in let r = held_counts v n d f (held_inside u v p n k d f s t) in omega (arith, q, r))
  ]
  | inr y ↦ elim h [
    | inl s ↦ (let q = held_counts w n c f (top_held w n c f y) in let r = held_counts v n d e (held_inside u v p n k d e s t) in omega (arith, q, r))
    | inr s ↦ (let q = twice w v u n p c d k f y s t in omega (arith, q))
  ]
]

-- a name that stands once has one parent
pub one_above : (u v w y : Unfolded) (n p q : Name) (k d c e x : Nest) → many n x ≤ 1 → Holds u p k x → Tops w n c k → Holds v q d x → Tops y n e d → p ≡ q
one_above u v w y n p q k d c e Bare o h t g s = absurd h
one_above u v w y n p q k d c e (Around z m f) o h t g s = elim h [
  | inl a ↦ elim g [
    | inl b ↦ a.1 ∙ sym b.1
    | inr b ↦ (let l = twice w y v n q c e d f (subst (λ z. Tops w n c z) a.2 t) b s in absurd (omega (arith, o, l)))
  ]
  | inr a ↦ elim g [
    | inl b ↦ (let l = twice y w u n p e c k f (subst (λ z. Tops y n e z) b.2 s) a t in absurd (omega (arith, o, l)))
    | inr b ↦ one_above u v w y n p q k d c e f (omega (arith, o)) a t b s
  ]
]
one_above u v w y n p q k d c e (Both f i) o h t g s = elim h [
  | inl a ↦ elim g [
    | inl b ↦ one_above u v w y n p q k d c e f (omega (arith, o)) a t b s
    | inr b ↦ (let l = held_counts w n c f (held_inside u w p n k c f a t) in let r = held_counts y n e i (held_inside v y q n d e i b s) in absurd (omega (arith, o, l, r)))
  ]
  | inr a ↦ elim g [
    | inl b ↦ (let l = held_counts w n c i (held_inside u w p n k c i a t) in let r = held_counts y n e f (held_inside v y q n d e f b s) in absurd (omega (arith, o, l, r)))
    | inr b ↦ one_above u v w y n p q k d c e i (omega (arith, o)) a t b s
  ]
]

-- an unfolded node as a nest

abbrev pub nest : Unfolded → Nest
nest (Folder id name less more inside) = Around (Folder id name less more inside) (Entry (id_of id)) (Both (nest less) (Both (nest more) (nest inside)))
nest (Leaf id name less more size counter versions) = Around (Leaf id name less more size counter versions) (Entry (id_of id)) (Both (nest less) (Both (nest more) (nest versions)))
nest (Split file level index low high) = Around (Split file level index low high) (Part (id_of file) level index) (Both (nest low) (nest high))
nest Absent = Bare
nest (Even version) = Bare
nest (Stored version bytes) = Bare

-- what is inside it
abbrev pub inner : Unfolded → Nest
inner (Folder id name less more inside) = Both (nest less) (Both (nest more) (nest inside))
inner (Leaf id name less more size counter versions) = Both (nest less) (Both (nest more) (nest versions))
inner (Split file level index low high) = Both (nest low) (nest high)
inner Absent = Bare
inner (Even version) = Bare
inner (Stored version bytes) = Bare

-- a node in a nest has its own name, and is around what is inside it
pub record IsOwn (w : Unfolded) (n : Name) (k : Nest) : Type 0 where
  pub named : node_name w ≡ Some n
  pub kids : k ≡ inner w

abbrev own_by : Nest → Type 0
own_by x = (w : Unfolded) (n : Name) (k : Nest) → Holds w n k x → IsOwn w n k

here : (u : Unfolded) (m : Name) → node_name u ≡ Some m → (w : Unfolded) (n : Name) (k : Nest) → (w ≡ u) × (n ≡ m) × (k ≡ inner u) → IsOwn w n k
here u m e w n k s = record { named = ap node_name s.0 ∙ e ∙ ap Some (sym s.1); kids = s.2 ∙ ap inner (sym s.0) }

both_own : (a b : Nest) → own_by a → own_by b → own_by (Both a b)
both_own a b f g w n k h = elim h [ inl s ↦ f w n k s | inr s ↦ g w n k s ]

around_own : (u : Unfolded) (m : Name) → node_name u ≡ Some m → own_by (inner u) → own_by (Around u m (inner u))
around_own u m e f w n k h = elim h [ inl s ↦ here u m e w n k s | inr s ↦ f w n k s ]

pub held_own : (u : Unfolded) → own_by (nest u)
held_own (Folder id name less more inside) =
    around_own (Folder id name less more inside) (Entry (id_of id)) refl (both_own (nest less) (Both (nest more) (nest inside)) (held_own less) (both_own (nest more) (nest inside) (held_own more) (held_own inside)))
held_own (Leaf id name less more size counter versions) =
    around_own (Leaf id name less more size counter versions) (Entry (id_of id)) refl (both_own (nest less) (Both (nest more) (nest versions)) (held_own less) (both_own (nest more) (nest versions) (held_own more) (held_own versions)))
held_own (Split file level index low high) =
    around_own (Split file level index low high) (Part (id_of file) level index) refl (both_own (nest low) (nest high) (held_own low) (held_own high))
held_own Absent = λ w n k h. absurd h
held_own (Even version) = λ w n k h. absurd h
held_own (Stored version bytes) = λ w n k h. absurd h

named_top : (w : Unfolded) (n : Name) → node_name w ≡ Some n → Tops w n (inner w) (nest w)
named_top (Folder id name less more inside) n e = (refl, (cc), refl)
named_top (Leaf id name less more size counter versions) n e = (refl, (cc), refl)
named_top (Split file level index low high) n e = (refl, (cc), refl)
named_top Absent n e = absurd (cc)
named_top (Even version) n e = absurd (cc)
named_top (Stored version bytes) n e = absurd (cc)

top_of : (w u : Unfolded) (n : Name) → w ≡ u → node_name w ≡ Some n → Tops w n (inner w) (nest u)
top_of w u n e f = subst (λ z. Tops w n (inner w) (nest z)) e (named_top w n f)

-- what stands directly below a node is inside it and inside no other
pub above_top : (u w : Unfolded) (n : Name) → IsAbove u w → node_name w ≡ Some n → Tops w n (inner w) (inner u)
above_top (Folder id name less more inside) w n h e = elim h [ inl s ↦ inl (top_of w less n s e) | inr r ↦ inr (elim r [ inl s ↦ inl (top_of w more n s e) | inr s ↦ inr (top_of w inside n s e) ]) ]
above_top (Leaf id name less more size counter versions) w n h e = elim h [ inl s ↦ inl (top_of w less n s e) | inr r ↦ inr (elim r [ inl s ↦ inl (top_of w more n s e) | inr s ↦ inr (top_of w versions n s e) ]) ]
above_top (Split file level index low high) w n h e = elim h [ inl s ↦ inl (top_of w low n s e) | inr s ↦ inr (top_of w high n s e) ]
above_top Absent w n h e = absurd h
above_top (Even version) w n h e = absurd h
above_top (Stored version bytes) w n h e = absurd h
