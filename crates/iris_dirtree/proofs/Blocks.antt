-- Where the block at a place of the walk lies, by counts.
use Rattle.std.proofs.Common.{◌≡◌, ◌+◌, ◌-◌, ◌/◌, ◌<◌, ◌≤◌, ◌++◌, inl, inr, nat_lt, ℕ, zero, suc, List, [], ◌∷◌, true, false, Option, Some, None, refl, ap, sym, ◌∙◌, subst, arith, length}
use Rattle.std.specs.Prelude.{slice_get, if◌then◌else◌}
use Rattle.std.specs.List.{range_with_len}
use Rattle.std.specs.Option.{option_map}
use Rattle.std.proofs.lemmas.Bool.{cond-true, cond-false}
use Rattle.std.proofs.lemmas.Bool.Decides.{nat_tests}
use Rattle.std.proofs.lemmas.Option.{slice_get-map, slice_get-get_or}
use Rattle.std.proofs.lemmas.List.FromFn.{get_or-range_with_len, length-range_with_len, length-map-range_with_len}
use Rattle.iris_name.specs.declared.name.FileId.{FileId}
use Rattle.iris_name.specs.declared.name.Name.{Name}
use Rattle.iris_name.specs.declared.name.Name.TheVariants as name
use Rattle.iris_node.specs.declared.node.Link.{Link}
use Rattle.iris_node.specs.declared.node.Side.{Side}
use Rattle.iris_node.specs.declared.node.Body.{Body}
use Rattle.iris_node.specs.declared.node.Body.TheVariants.{Dir, File}
use Rattle.iris_node.specs.declared.node.Node.TheVariants as node
use Rattle.iris_node.specs.Fields.{EntryFields}
use Rattle.iris_node.specs.Local.{led, led_by, local, entry_local}
use Rattle.iris_node.specs.Trees.{IsAbove, node_name}
use Rattle.iris_node.specs.Unfolded.{Unfolded, Absent, Folder, Leaf, Even, Split, Stored, id_of, blocks}
use Rattle.iris_node.specs.Walk.{BlockAt, walk, file_blocks, block_count}
use Rattle.iris_node.proofs.Walking.{counted}
use Rattle.iris_cache.specs.Pictures.{Holds, BodyHolds}
use Rattle.iris_dirtree.specs.Places.{down_to}
use Rattle.iris_dirtree.specs.Turns.{IsTurn}
use Rattle.iris_treepaths.specs.Ways.{Any}
use Rattle.iris_dirtree.specs.declared.placing.Turn.TheVariants.{Own, Under}
use Rattle.iris_treepaths.proofs.RowNodes.{led_blocks}
use Rattle.iris_dirtree.proofs.Stands.{link_holds}

pub get_left : (xs ys : List BlockAt) (i : ℕ) → i < length xs → slice_get (xs ++ ys) i ≡ slice_get xs i
get_left [] ys i lt = absurd (omega arith)
get_left (x ∷ xs) ys zero lt = refl
get_left (x ∷ xs) ys (suc i) lt = get_left xs ys i (omega arith)

pub get_right : (xs ys : List BlockAt) (i j : ℕ) → j ≡ length xs + i → slice_get (xs ++ ys) j ≡ slice_get ys i
get_right [] ys i j e = ap (slice_get ys) (omega arith)
get_right (x ∷ xs) ys i zero e = absurd (omega arith)
get_right (x ∷ xs) ys i (suc j) e = get_right xs ys i j (omega arith)

-- a list of three parts, by their lengths
get_first : (x y z : List BlockAt) (a i : ℕ) → length x ≡ a → i < a → slice_get (x ++ (y ++ z)) i ≡ slice_get x i
get_first x y z a i e lt = get_left x (y ++ z) i (omega arith)

get_second : (x y z : List BlockAt) (a b i r : ℕ) → length x ≡ a → length y ≡ b → i ≡ a + r → r < b → slice_get (x ++ (y ++ z)) i ≡ slice_get y r
get_second x y z a b i r e f at lt = get_right x (y ++ z) r i (omega arith) ∙ get_left y z r (omega arith)

get_third : (x y z : List BlockAt) (a b i r : ℕ) → length x ≡ a → length y ≡ b → i ≡ a + b + r → slice_get (x ++ (y ++ z)) i ≡ slice_get z r
get_third x y z a b i r e f at = get_right x (y ++ z) (b + r) i (omega arith) ∙ get_right y z r (b + r) (omega arith)

range_at : (n p : ℕ) → p < n → slice_get (range_with_len 0 n) p ≡ Some p
range_at n p lt =
    let l = length-range_with_len 0 n in
    let g = get_or-range_with_len 0 n p 0 lt in
    let z : 0 + p ≡ p = omega arith in
    slice_get-get_or (range_with_len 0 n) p 0 (omega (arith, l)) ∙ ap Some (g ∙ z)

file_at : (id size p : ℕ) → p < block_count size → slice_get (file_blocks id size) p ≡ Some (record { file = id; place = p })
file_at id size p lt =
    let f : ℕ → BlockAt = λ place. record { file = id; place = place } in
    slice_get-map f (range_with_len 0 (block_count size)) p ∙ ap (option_map f) (range_at (block_count size) p lt)

pub is_less : (a b : ℕ) → a < b → nat_lt a b ≡ true
is_less a b lt = grind (arith, nat_tests)

pub is_not_less : (a b : ℕ) → b ≤ a → nat_lt a b ≡ false
is_not_less a b le = grind (arith, nat_tests)

-- a choice of three by counts
first_of_three : (at a b : ℕ) (X Y Z : ℕ → List ℕ) → at < a → (if nat_lt at a then X at else if nat_lt (at - a) b then Y (at - a) else Z (at - a - b)) ≡ X at
first_of_three at a b X Y Z lt = cond-true (nat_lt at a) (X at) _ (is_less at a lt)

second_of_three : (at a b r : ℕ) (X Y Z : ℕ → List ℕ) → at ≡ a + r → r < b → (if nat_lt at a then X at else if nat_lt (at - a) b then Y (at - a) else Z (at - a - b)) ≡ Y r
second_of_three at a b r X Y Z e lt =
    let z : at - a ≡ r = omega arith in
    cond-false (nat_lt at a) (X at) _ (is_not_less at a (omega arith)) ∙ cond-true (nat_lt (at - a) b) (Y (at - a)) _ (is_less (at - a) b (omega arith)) ∙ ap Y z

third_of_three : (at a b r : ℕ) (X Y Z : ℕ → List ℕ) → at ≡ a + b + r → (if nat_lt at a then X at else if nat_lt (at - a) b then Y (at - a) else Z (at - a - b)) ≡ Z r
third_of_three at a b r X Y Z e =
    let z : at - a - b ≡ r = omega arith in
    cond-false (nat_lt at a) (X at) _ (is_not_less at a (omega arith)) ∙ cond-false (nat_lt (at - a) b) (Y (at - a)) _ (is_not_less (at - a) b (omega arith)) ∙ ap Z z

abbrev name_id : Option Name → ℕ
name_id None = 0
name_id (Some (name.Entry id)) = id.0
name_id (Some (name.Part f l i)) = 0
name_id (Some (name.Block f p)) = 0

entry_id_is : (id : ℕ) (i : FileId) → Some (name.Entry (id_of id)) ≡ Some (name.Entry i) → id ≡ i.0
entry_id_is id i e = ap name_id e

-- where no link leads, there is no block
pub walk_none : (w : Unfolded) → led_by None ≡ led w → walk w ≡ []
walk_none (Folder id label less more inside) h = cc
walk_none (Leaf id label less more size counter versions) h = cc
walk_none Absent h = refl
walk_none (Even v) h = refl
walk_none (Split f k i low high) h = refl
walk_none (Stored v bytes) h = refl

-- a turn leads to what holds the block
pub record Turned (u : Unfolded) (e : EntryFields) (at : ℕ) (link : Option Link) (rest : ℕ) : Type 0 where
  pub under : Unfolded
  pub above : IsAbove u under
  pub leads : led_by link ≡ led under
  pub holds : (l : Link) → link ≡ Some l → Holds (node.Entry e) (name.Entry l.id) l.hash
  pub same : slice_get (walk u) at ≡ slice_get (walk under) rest
  pub met : (n : Name) → Any (λ i. n ≡ name.Entry (id_of i)) (down_to rest under) → Any (λ i. n ≡ name.Entry (id_of i)) (down_to at u)

abbrev Meets : Name → List ℕ → Type 0
Meets n ids = Any (λ i. n ≡ name.Entry (id_of i)) ids

turned_dir : (id : ℕ) (label : List ℕ) (less more inside : Unfolded) (e : EntryFields) (top : Option Link) (at : ℕ) (link : Option Link) (rest : ℕ) → e.body ≡ Dir top → led_by e.left ≡ led less → led_by e.right ≡ led more → led_by top ≡ led inside
    → IsTurn at (record { id = e.id; name = e.name; left = e.left; right = e.right; body = Dir top }) (Under link rest) → Turned (Folder id label less more inside) e at link rest
turned_dir id label less more inside e top at link rest be el em ei (inl (is, same, lt)) =
    let a = led_blocks e.left less el in
    let at_rest : rest ≡ at = same in
    let l : at < blocks less = omega arith in
    record {
      under = less;
      above = inl refl;
      leads = ap led_by is ∙ el;
      holds = λ k q. inl (link_holds e.left k (sym is ∙ q));
      same = get_first (walk less) (walk inside) (walk more) (blocks less) at (counted less) l ∙ ap (slice_get (walk less)) (sym same);
      met = λ n h. inr (subst (Meets n) (ap (λ r. down_to r less) same ∙ sym (first_of_three at (blocks less) (blocks inside) (λ r. down_to r less) (λ r. down_to r inside) (λ r. down_to r more) l)) h);
    }
turned_dir id label less more inside e top at link rest be el em ei (inr (inl (is, is_at, lt))) =
    let a = led_blocks e.left less el in
    let b = led_blocks top inside ei in
    let q : at ≡ blocks less + rest = omega arith in
    let l : rest < blocks inside = omega arith in
    record {
      under = inside;
      above = inr (inr refl);
      leads = ap led_by is ∙ ei;
      holds = λ k q. inr (inr (subst (λ b. BodyHolds e.id b (name.Entry k.id) k.hash) (sym be) (link_holds top k (sym is ∙ q))));
      same = get_second (walk less) (walk inside) (walk more) (blocks less) (blocks inside) at rest (counted less) (counted inside) q l;
      met = λ n h. inr (subst (Meets n) (sym (second_of_three at (blocks less) (blocks inside) rest (λ r. down_to r less) (λ r. down_to r inside) (λ r. down_to r more) q l)) h);
    }
turned_dir id label less more inside e top at link rest be el em ei (inr (inr (is, is_at))) =
    let a = led_blocks e.left less el in
    let b = led_blocks top inside ei in
    let q : at ≡ blocks less + blocks inside + rest = omega arith in
    record {
      under = more;
      above = inr (inl refl);
      leads = ap led_by is ∙ em;
      holds = λ k q. inr (inl (link_holds e.right k (sym is ∙ q)));
      same = get_third (walk less) (walk inside) (walk more) (blocks less) (blocks inside) at rest (counted less) (counted inside) q;
      met = λ n h. inr (subst (Meets n) (sym (third_of_three at (blocks less) (blocks inside) rest (λ r. down_to r less) (λ r. down_to r inside) (λ r. down_to r more) q)) h);
    }

file_count : (id size : ℕ) → length (file_blocks id size) ≡ block_count size
file_count id size = length-map-range_with_len (λ place. record { file = id; place = place }) 0 (block_count size)

turned_file : (id : ℕ) (label : List ℕ) (less more : Unfolded) (size counter : ℕ) (versions : Unfolded) (e : EntryFields) (n k : ℕ) (v : Side) (at : ℕ) (link : Option Link) (rest : ℕ) → n ≡ size → led_by e.left ≡ led less → led_by e.right ≡ led more
    → IsTurn at (record { id = e.id; name = e.name; left = e.left; right = e.right; body = File n k v }) (Under link rest) → Turned (Leaf id label less more size counter versions) e at link rest
turned_file id label less more size counter versions e n k v at link rest en el em (inl (is, same, lt)) =
    let a = led_blocks e.left less el in
    let at_rest : rest ≡ at = same in
    let l : at < blocks less = omega arith in
    record {
      under = less;
      above = inl refl;
      leads = ap led_by is ∙ el;
      holds = λ k q. inl (link_holds e.left k (sym is ∙ q));
      same = get_first (walk less) (file_blocks id size) (walk more) (blocks less) at (counted less) l ∙ ap (slice_get (walk less)) (sym same);
      met = λ n h. inr (subst (Meets n) (ap (λ r. down_to r less) same ∙ sym (first_of_three at (blocks less) (block_count size) (λ r. down_to r less) (λ r. []) (λ r. down_to r more) l)) h);
    }
turned_file id label less more size counter versions e n k v at link rest en el em (inr (inl (is, is_at, lt))) = absurd is
turned_file id label less more size counter versions e n k v at link rest en el em (inr (inr (is, is_at))) =
    let a = led_blocks e.left less el in
    let b : (n + 4095) / 4096 ≡ block_count size = ap (λ n. (n + 4095) / 4096) en in
    let q : at ≡ blocks less + block_count size + rest = omega arith in
    record {
      under = more;
      above = inr (inl refl);
      leads = ap led_by is ∙ em;
      holds = λ k q. inr (inl (link_holds e.right k (sym is ∙ q)));
      same = get_third (walk less) (file_blocks id size) (walk more) (blocks less) (block_count size) at rest (counted less) (file_count id size) q;
      met = λ n h. inr (subst (Meets n) (sym (third_of_three at (blocks less) (block_count size) rest (λ r. down_to r less) (λ r. []) (λ r. down_to r more) q)) h);
    }

turned_by : (u : Unfolded) (e : EntryFields) (b : Body) (at : ℕ) (link : Option Link) (rest : ℕ) → e.body ≡ b → local u ≡ Some (entry_local e b)
    → IsTurn at (record { id = e.id; name = e.name; left = e.left; right = e.right; body = b }) (Under link rest) → Turned u e at link rest
turned_by (Folder id label less more inside) e (Dir top) at link rest be h t = turned_dir id label less more inside e top at link rest be (cc) (cc) (cc) t
turned_by (Leaf id label less more size counter versions) e (File n k v) at link rest be h t = turned_file id label less more size counter versions e n k v at link rest (cc) (cc) (cc) t
turned_by (Folder id label less more inside) e (File n k v) at link rest be h t = cc
turned_by (Leaf id label less more size counter versions) e (Dir top) at link rest be h t = cc
turned_by (Split f l i low high) e (Dir top) at link rest be h t = cc
turned_by (Split f l i low high) e (File n k v) at link rest be h t = cc
turned_by Absent e b at link rest be h t = cc
turned_by (Even v) e b at link rest be h t = cc
turned_by (Stored v bytes) e b at link rest be h t = cc

pub turned : (u : Unfolded) (e : EntryFields) (at : ℕ) (link : Option Link) (rest : ℕ) → local u ≡ Some (entry_local e e.body) → IsTurn at e (Under link rest) → Turned u e at link rest
turned u e at link rest h t = turned_by u e e.body at link rest refl h t

own_by : (u : Unfolded) (e : EntryFields) (b : Body) (at place : ℕ) (id : FileId) → local u ≡ Some (entry_local e b) → node_name u ≡ Some (name.Entry id)
    → IsTurn at (record { id = e.id; name = e.name; left = e.left; right = e.right; body = b }) (Own place) → Some (record { file = id.0; place = place }) ≡ slice_get (walk u) at
own_by (Leaf id label less more size counter versions) e (File n k v) at place i h named (is, is_at, lt) =
    let a = led_blocks e.left less (cc) in
    let en : n ≡ size = cc in
    let b : (n + 4095) / 4096 ≡ block_count size = ap (λ n. (n + 4095) / 4096) en in
    let q : at ≡ blocks less + place = omega arith in
    let l : place < block_count size = omega arith in
    let same : id ≡ i.0 = entry_id_is id i named in
    sym (get_second (walk less) (file_blocks id size) (walk more) (blocks less) (block_count size) at place (counted less) (file_count id size) q l ∙ file_at id size place l ∙ ap (λ f. Some (record { file = f; place = place })) same)
own_by (Leaf id label less more size counter versions) e (Dir top) at place i h named t = cc
own_by (Folder id label less more inside) e (Dir top) at place i h named t = absurd t.0
own_by (Folder id label less more inside) e (File n k v) at place i h named t = cc
own_by (Split f l i low high) e (Dir top) at place id h named t = cc
own_by (Split f l i low high) e (File n k v) at place id h named t = cc
own_by Absent e b at place i h named t = cc
own_by (Even v) e b at place i h named t = cc
own_by (Stored v bytes) e b at place i h named t = cc

pub turned_own : (u : Unfolded) (e : EntryFields) (at place : ℕ) (id : FileId) → local u ≡ Some (entry_local e e.body) → node_name u ≡ Some (name.Entry id) → IsTurn at e (Own place) → Some (record { file = id.0; place = place }) ≡ slice_get (walk u) at
turned_own u e at place id h named t = own_by u e e.body at place id h named t
