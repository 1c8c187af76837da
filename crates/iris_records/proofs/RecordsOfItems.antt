-- What names stand for among items is what they stand for in the table of these items.
use Rattle.std.proofs.Common.{◌≡◌, inl, inr, get_or, ℕ, zero, suc, ◌+◌, ◌/◌, ◌%◌, ◌≤◌, ◌<◌, List, [], ◌∷◌, ◌++◌, length, take, drop, length-drop, ◌-◌, Bool, true, false, ◌&&◌, cond, Option, Some, None, refl, sym, ◌∙◌, ap, subst, arith}
use Rattle.std.specs.Prelude.{◌==◌, not, nat_lt, nat_le, All, codes}
use Rattle.std.specs.List.{list_all}
use Rattle.std.specs.Str.{bytes_eq}
use Rattle.std.specs.Option.{option_map}
use Rattle.std.specs.Int.{w64, to_be_bytes}
use Rattle.sha2.specs.Sha256.{sha256}
use Rattle.std.proofs.lemmas.Bool.Decides.{nat_tests}
use Rattle.iris_name.specs.declared.name.FileId.{FileId}
use Rattle.iris_name.specs.Names.{same_name}
use Rattle.iris_name.specs.declared.name.Name.{Name}
use Rattle.iris_name.specs.declared.name.Name.TheVariants.{Entry, Part, Block}
use Rattle.iris_mac.specs.declared.keys.Keys.{Keys}
use Rattle.iris_node.specs.Spelling.{spelling}
use Rattle.iris_node.specs.Unfolded.{Unfolded, Absent, Folder, link_to, node_of, node_record, spelled_node as node_spelled, link_blocks}
use Rattle.iris_node.specs.declared.node.Body.TheVariants.{Dir}
use Rattle.iris_node.specs.declared.node.Link.{Link}
use Rattle.iris_node.specs.declared.node.Node.{Node}
use Rattle.iris_node.specs.declared.node.Node.TheVariants.{Entry as Entry-node}
use Rattle.iris_shape.specs.Local.{either}
use Rattle.iris_rows.specs.declared.item.Item.{Item}
use Rattle.iris_records.specs.declared.entries.Told.{Told}
use Rattle.iris_rows.specs.Changes.{hex_digit, hex_digits, trash_name}
use Rattle.iris_rows.specs.Items.{grown, kept_file, most_depth, IsForestTo, IsForest, table_over}
use Rattle.iris_rows.specs.Places.{StoredPlaces, file_of}
use Rattle.iris_records.specs.Records.{Records, looked, spelled, AreLive, AreInOrder, root_hash}
use Rattle.iris_rows.specs.Rows.{Rows, End, Row}
use Rattle.iris_records.specs.Shown.{directory, in_directory, in_file, inside_rows, shown}
use Rattle.iris_rows.specs.Sound.{times_given, is_step, IsOrdered, IsTrash, IsSound}
use Rattle.iris_records.specs.Pieces.{Adds}
use Rattle.iris_records.specs.Walks.{told, own_of, IsItem, IsRising, IsFit, AreFit, AreStored, inside_item, inside_items, among_items, root_of_items, shown_items}
use Rattle.iris_records.proofs.EntryRecords.{blocks_linked}
use Rattle.iris_rows.proofs.RowsByName.{same_tells}
use Rattle.iris_rows.proofs.GrownRows.{grown_higher, grown_deeper}
use Rattle.iris_records.proofs.LevelRows.{row_here}
use Rattle.iris_records.proofs.PartRecords.{either_assoc, either_none, adds_one, adds_same}

-- a root's node

pub root_node : (id : FileId) (name : List ℕ) (top : Option Link) (inside : Unfolded) → name ≡ [] → top ≡ link_to inside (node_of inside)
    → node_of (Folder id.0 [] Absent Absent inside) ≡ Some (Entry-node (record { id = id; name = name; left = None; right = None; body = Dir top }))
unfolding node_of
root_node id name top inside e f =
    ap (λ z. Some (Entry-node (record { id = id; name = z; left = None; right = None; body = Dir (link_to inside (node_of inside)) }))) (sym e)
    ∙ ap (λ z. Some (Entry-node (record { id = id; name = name; left = None; right = None; body = Dir z }))) (sym f)

-- what a directory's entry says

pub dir_told : (order : List ℕ) (item : Item) (after : List Item) (top : Option Link) (depth : ℕ) → item.file ≡ None → depth ≡ item.depth + 1
    → top ≡ link_to (directory order (grown depth after)) (node_of (directory order (grown depth after))) → record { body = Dir top; blocks = link_blocks top } ≡ told (own_of order item after)
dir_told order item after top depth e f g =
    let h : top ≡ link_to (directory order (grown (item.depth + 1) after)) (node_of (directory order (grown (item.depth + 1) after)))
    = g ∙ ap (λ z. link_to (directory order (grown z after)) (node_of (directory order (grown z after)))) f in
    by item.file e h where
      both : Option Link → Told
      both z = record { body = Dir z; blocks = link_blocks z }

      by : (file : _) → file ≡ None → top ≡ link_to (directory order (grown (item.depth + 1) after)) (node_of (directory order (grown (item.depth + 1) after)))
          → both top ≡ told (record { id = item.id.0; name = item.name; file = kept_file file; inside = directory order (grown (item.depth + 1) after) })
      by None e h = ap both h ∙ ap (λ z. record { body = Dir (link_to (directory order (grown (item.depth + 1) after)) (node_of (directory order (grown (item.depth + 1) after)))); blocks = z }) (blocks_linked (directory order (grown (item.depth + 1) after)))
      by (Some f) e h = absurd (cc)

pub dir_inside : (order : List ℕ) (n : Name) (item : Item) (after : List Item) (depth : ℕ) → item.file ≡ None → depth ≡ item.depth + 1
    → in_directory n (directory order (grown depth after)) ≡ inside_item order n item item.file after
dir_inside order n item after depth e f = by item.file e where
  by : (file : Option StoredPlaces) → file ≡ None → in_directory n (directory order (grown depth after)) ≡ inside_item order n item file after
  by None e = ap (λ z. in_directory n (directory order (grown z after))) f
  by (Some k) e = absurd (cc)

-- items that fit

pub all_items : (items : List Item) → AreFit items → All IsItem items
all_items [] f = λ k d h. absurd (omega (arith, h))
all_items (x ∷ xs) f = λ k d h. at k d h (all_items xs f.1) where
  at : (k : ℕ) (d : Item) → k < suc (length xs) → All IsItem xs → IsItem (get_or (x ∷ xs) k d)
  at zero d h r = f.0.own
  at (suc k) d h r = r k d (omega (arith, h))

pub fit_drop : (items : List Item) (i : ℕ) → AreFit items → AreFit (drop i items)
fit_drop [] zero f = f
fit_drop [] (suc i) f = f
fit_drop (x ∷ xs) zero f = f
fit_drop (x ∷ xs) (suc i) f = fit_drop xs i f.1

pub fit_at : (items : List Item) (i : ℕ) (item : Item) → drop i items ≡ item ∷ drop (i + 1) items → AreFit items → IsFit item (drop (i + 1) items)
fit_at items i item e f = let g = subst AreFit e (fit_drop items i f) in g.0

pub tail : (items : List Item) (n : ℕ) → take (length items - n) (drop n items) ≡ drop n items
tail items n = ap (λ z. take z (drop n items)) (sym (length-drop n items)) ∙ whole (drop n items) where
  whole : (xs : List Item) → take (length xs) xs ≡ xs
  whole [] = refl
  whole (x ∷ xs) = ap (λ z. x ∷ z) (whole xs)

-- from preorder to the forest

abbrev chain : List ℕ → Name → ℕ → List Item → Option Unfolded
chain order n zero items = inside_rows order n (grown 0 items)
chain order n (suc d) items = either (inside_rows order n (grown (suc d) items)) (chain order n d items)

chain_none : (order : List ℕ) (n : Name) (d : ℕ) → chain order n d [] ≡ None
chain_none order n zero = refl
chain_none order n (suc d) = chain_none order n d

-- rows that lie deeper than the next item are none
chain_down : (order : List ℕ) (n : Name) (d e : ℕ) (item : Item) (items : List Item) → item.depth ≡ e → e ≤ d → chain order n d (item ∷ items) ≡ chain order n e (item ∷ items)
chain_down order n zero e item items h l = let k : 0 ≡ e = omega (arith, l) in ap (λ z. chain order n z (item ∷ items)) k
chain_down order n (suc d) e item items h l = by (nat_le e d) refl (λ k. chain_down order n d e item items h k) where
  by : (b : Bool) → nat_le e d ≡ b → (e ≤ d → chain order n d (item ∷ items) ≡ chain order n e (item ∷ items)) → chain order n (suc d) (item ∷ items) ≡ chain order n e (item ∷ items)
  by true t f = let k : e ≤ d = grind (arith, nat_tests) in ap (λ z. either (inside_rows order n z) (chain order n d (item ∷ items))) (grown_higher (suc d) item items (omega (arith, h, k))) ∙ f k
  by false t f = let k : suc d ≤ e = grind (arith, nat_tests) in let j : suc d ≡ e = omega (arith, k, l) in ap (λ z. chain order n z (item ∷ items)) j

-- rows that lie higher are those of the items that follow
chain_past : (order : List ℕ) (n : Name) (d : ℕ) (item : Item) (items : List Item) → d < item.depth → chain order n d (item ∷ items) ≡ chain order n d items
chain_past order n zero item items h = ap (inside_rows order n) (grown_deeper 0 item items h)
chain_past order n (suc d) item items h =
    ap (λ z. either (inside_rows order n z) (chain order n d (item ∷ items))) (grown_deeper (suc d) item items h) ∙ ap (either (inside_rows order n (grown (suc d) items))) (chain_past order n d item items (omega (arith, h)))

abbrev deeper : List ℕ → Name → Option StoredPlaces → Rows → Option Unfolded
deeper order n None rows = inside_rows order n rows
deeper order n (Some f) rows = None

row_inside : (order : List ℕ) (n : Name) (item : Item) (items : List Item) (file : Option StoredPlaces) (rest : Option Unfolded) → (e : ℕ) → item.depth ≡ e
    → either (inside_rows order n (Row item.id.0 item.name (kept_file file) (grown (e + 1) items) (grown e items))) rest
    ≡ either (inside_item order n item file items) (either (deeper order n file (grown (e + 1) items)) (either (inside_rows order n (grown e items)) rest))
row_inside order n item items None rest e h =
    ap (λ z. either (either (either (in_directory n (directory order (grown (z + 1) items))) (inside_rows order n (grown (e + 1) items))) (inside_rows order n (grown e items))) rest) (sym h)
    ∙ sym (either_assoc (either (in_directory n (directory order (grown (item.depth + 1) items))) (inside_rows order n (grown (e + 1) items))) (inside_rows order n (grown e items)) rest)
    ∙ sym (either_assoc (in_directory n (directory order (grown (item.depth + 1) items))) (inside_rows order n (grown (e + 1) items)) (either (inside_rows order n (grown e items)) rest))
row_inside order n item items (Some f) rest e h = sym (either_assoc (in_file n item.id.0 (file_of f)) (inside_rows order n (grown e items)) rest)

-- a row at a depth is what lies inside it, and then what follows
chain_here : (order : List ℕ) (n : Name) (e : ℕ) (item : Item) (items : List Item) (file : Option StoredPlaces) → item.file ≡ file → item.depth ≡ e
    → chain order n e (item ∷ items) ≡ either (inside_item order n item file items) (chain order n (most_depth item file) items)
chain_here order n zero item items file f h =
    sym (either_none (inside_rows order n (grown 0 (item ∷ items))))
    ∙ ap (λ z. either (inside_rows order n z) None) (row_here 0 item items h ∙ ap (λ z. Row item.id.0 item.name (kept_file z) (grown (0 + 1) items) (grown 0 items)) f)
    ∙ row_inside order n item items file None 0 h ∙ ap (either (inside_item order n item file items)) (ends file) where
      ends : (file : Option StoredPlaces) → either (deeper order n file (grown (0 + 1) items)) (either (inside_rows order n (grown 0 items)) None) ≡ chain order n (most_depth item file) items
      ends None = ap (either (inside_rows order n (grown (0 + 1) items))) (either_none (inside_rows order n (grown 0 items))) ∙ (let k : suc 0 ≡ item.depth + 1 = omega (arith, h) in ap (λ z. chain order n z items) k)
      ends (Some f) = either_none (inside_rows order n (grown 0 items)) ∙ ap (λ z. chain order n z items) (sym h)
chain_here order n (suc d) item items file f h =
    ap (λ z. either (inside_rows order n z) (chain order n d (item ∷ items))) (row_here (suc d) item items h ∙ ap (λ z. Row item.id.0 item.name (kept_file z) (grown (suc d + 1) items) (grown (suc d) items)) f)
    ∙ ap (either (inside_rows order n (Row item.id.0 item.name (kept_file file) (grown (suc d + 1) items) (grown (suc d) items)))) (chain_past order n d item items (omega (arith, h)))
    ∙ row_inside order n item items file (chain order n d items) (suc d) h ∙ ap (either (inside_item order n item file items)) (ends file) where
      ends : (file : Option StoredPlaces) → either (deeper order n file (grown (suc d + 1) items)) (either (inside_rows order n (grown (suc d) items)) (chain order n d items)) ≡ chain order n (most_depth item file) items
      ends None = (let k : suc d + 1 ≡ suc (suc d) = omega arith in ap (λ z. either (inside_rows order n (grown z items)) (chain order n (suc d) items)) k) ∙ (let k : suc (suc d) ≡ item.depth + 1 = omega (arith, h) in ap (λ z. chain order n z items) k)
      ends (Some f) = ap (λ z. chain order n z items) (sym h)

items_chain : (order : List ℕ) (n : Name) (d : ℕ) (items : List Item) → IsForestTo d items → inside_items order n items ≡ chain order n d items
items_chain order n d [] f = sym (chain_none order n d)
items_chain order n d (item ∷ items) f =
    ap (either (inside_item order n item item.file items)) (items_chain order n (most_depth item item.file) items f.1)
    ∙ sym (chain_here order n item.depth item items item.file refl refl) ∙ sym (chain_down order n d item.depth item items refl f.0)

-- what names stand for inside items in preorder is what they stand for inside their forest
pub forest_inside : (order : List ℕ) (n : Name) (items : List Item) → IsForest items → inside_items order n items ≡ inside_rows order n (grown 0 items)
forest_inside order n items f = items_chain order n 0 items f

-- the names of the trash are steps of a path

hex_is : (d : ℕ) → (not (hex_digit d == 0) ≡ true) × (not (hex_digit d == 47) ≡ true)
hex_is d = by (nat_lt d 10) where
  by : (b : Bool) → (not (cond b (48 + d) (87 + d) == 0) ≡ true) × (not (cond b (48 + d) (87 + d) == 47) ≡ true)
  by true = (grind (arith, nat_tests), grind (arith, nat_tests))
  by false = (grind (arith, nat_tests), grind (arith, nat_tests))

all_push : (p : ℕ → Bool) (xs : List ℕ) (x : ℕ) → list_all p xs ≡ true → p x ≡ true → list_all p (xs ++ x ∷ []) ≡ true
all_push p [] x h k = rw k refl
all_push p (y ∷ ys) x h k = by (p y) h (λ g. all_push p ys x g k) where
  by : (b : Bool) → b && list_all p ys ≡ true → (list_all p ys ≡ true → list_all p (ys ++ x ∷ []) ≡ true) → b && list_all p (ys ++ x ∷ []) ≡ true
  by true h f = f h
  by false h f = absurd (cc)

digits_all : (p : ℕ → Bool) → ((d : ℕ) → p (hex_digit d) ≡ true) → (count n : ℕ) → list_all p (hex_digits count n) ≡ true
digits_all p h zero n = refl
digits_all p h (suc count) n = all_push p (hex_digits count (n / 16)) (hex_digit (n % 16)) (digits_all p h count (n / 16)) (h (n % 16))

other_length : (a b : List ℕ) → (length a ≡ length b → ⊥) → bytes_eq a b ≡ false
other_length a b h = elim (same_tells a b) [ inl t ↦ absurd (h (ap length t.1)) | inr t ↦ t.0 ]

trash_step : (id : ℕ) → is_step (trash_name id) ≡ true
trash_step id =
    let dot = other_length (trash_name id) (codes ".") (λ e. absurd (omega (arith, e))) in
    let dots = other_length (trash_name id) (codes "..") (λ e. absurd (omega (arith, e))) in
    let a = digits_all (λ b. not (b == 0)) (λ d. (hex_is d).0) 16 id in
    let b = digits_all (λ b. not (b == 47)) (λ d. (hex_is d).1) 16 id in
    rw (dot, dots, a, b) refl

pub trash_ordered : (rows : Rows) → IsTrash rows → IsOrdered rows
trash_ordered End t = tt
trash_ordered (Row id name file inside next) t = (subst (λ z. is_step z ≡ true) (sym t.0) (trash_step id), t.1, t.2, trash_ordered next t.3)

pub rising_of : (rows : Rows) → IsOrdered rows → IsRising rows
rising_of End o = tt
rising_of (Row id name file inside next) o = (o.1, rising_of next o.3)

-- items of an ordered forest whose ids stand once fit
pub record Fits (d : ℕ) (items : List Item) : Type 0 where
  pub ordered : (k : ℕ) → k ≤ d → IsOrdered (grown k items)
  pub once : (i k : ℕ) → k ≤ d → times_given i (grown k items) ≤ 1
  pub given : (i k : ℕ) → k ≤ d → 1 ≤ times_given i (grown k items) → 2 ≤ i

pub fits_all : (d : ℕ) (items : List Item) → IsForestTo d items → Fits d items → AreFit items
fits_all d [] f h = tt
fits_all d (item ∷ items) f h = (fit, fits_all (most_depth item item.file) items f.1 (next item.file)) where
  here : grown item.depth (item ∷ items) ≡ Row item.id.0 item.name (kept_file item.file) (grown (item.depth + 1) items) (grown item.depth items)
  here = row_here item.depth item items refl

  ordered : IsOrdered (Row item.id.0 item.name (kept_file item.file) (grown (item.depth + 1) items) (grown item.depth items))
  ordered = subst IsOrdered here (h.ordered item.depth f.0)

  once : (i : ℕ) → times_given i (Row item.id.0 item.name (kept_file item.file) (grown (item.depth + 1) items) (grown item.depth items)) ≤ 1
  once i = subst (λ z. times_given i z ≤ 1) here (h.once i item.depth f.0)

  given : (i : ℕ) → 1 ≤ times_given i (Row item.id.0 item.name (kept_file item.file) (grown (item.depth + 1) items) (grown item.depth items)) → 2 ≤ i
  given i l = h.given i item.depth f.0 (subst (λ z. 1 ≤ times_given i z) (sym here) l)

  fit : IsFit item items
  fit = record {
    own = record { id = given item.id.0 (grind (arith, nat_tests)); name = ordered.0 };
    once = λ i. (let k = once i in omega (arith, k));
    rising = rising_of (grown (item.depth + 1) items) ordered.2;
  }

  lower : (k : ℕ) → k < item.depth → grown k (item ∷ items) ≡ grown k items
  lower k l = grown_deeper k item items l

  at : (P : Rows → Type 0) → ((k : ℕ) → k ≤ d → P (grown k (item ∷ items))) → P (grown item.depth items) → P (grown (item.depth + 1) items) → (k : ℕ) → k ≤ item.depth + 1 → P (grown k items)
  at P a b c k l = by (nat_lt k item.depth) refl (k == item.depth) refl where
    by : (x : Bool) → nat_lt k item.depth ≡ x → (y : Bool) → (k == item.depth) ≡ y → P (grown k items)
    by true e y g = let m : k < item.depth = grind (arith, nat_tests) in let le = f.0 in subst P (lower k m) (a k (omega (arith, m, le)))
    by false e true g = let m : k ≡ item.depth = grind (arith, nat_tests) in subst (λ z. P (grown z items)) (sym m) b
    by false e false g = let m : k ≡ item.depth + 1 = grind (arith, nat_tests) in subst (λ z. P (grown z items)) (sym m) c

  most : (file : Option StoredPlaces) (k : ℕ) → k ≤ most_depth item file → k ≤ item.depth + 1
  most None k l = l
  most (Some f) k l = omega (arith, l)

  next : (file : Option StoredPlaces) → Fits (most_depth item file) items
  next file = record {
    ordered = λ k l. at IsOrdered h.ordered ordered.3 ordered.2 k (most file k l);
    once = λ i k l. at (λ z. times_given i z ≤ 1) (λ k l. h.once i k l) (let o = once i in omega (arith, o)) (let o = once i in omega (arith, o)) k (most file k l);
    given = λ i k l. at (λ z. 1 ≤ times_given i z → 2 ≤ i) (λ k l. h.given i k l) (λ o. given i (omega (arith, o))) (λ o. given i (omega (arith, o))) k (most file k l);
  }

zero_only : (k : ℕ) → k ≤ 0 → 0 ≡ k
zero_only k l = omega (arith, l)

pub stored : (items : List Item) (next : ℕ) → IsForest items → IsOrdered (grown 0 items) → ((i : ℕ) → times_given i (grown 0 items) ≤ cond (nat_le 2 i && nat_lt i next) 1 0) → AreStored items
stored items next f o h = record { fit = fits_all 0 items f fits; once = λ i. most i; rising = rising_of (grown 0 items) o } where
  bound : (i n : ℕ) → n ≤ cond (nat_le 2 i && nat_lt i next) 1 0 → (n ≤ 1) × (1 ≤ n → 2 ≤ i)
  bound i n h = by (nat_le 2 i) refl (nat_lt i next) h where
    by : (a : Bool) → nat_le 2 i ≡ a → (b : Bool) → n ≤ cond (a && b) 1 0 → (n ≤ 1) × (1 ≤ n → 2 ≤ i)
    by true e true h = (h, λ _. grind (arith, nat_tests))
    by true e false h = (omega (arith, h), λ l. absurd (omega (arith, h, l)))
    by false e b h = (omega (arith, h), λ l. absurd (omega (arith, h, l)))

  most : (i : ℕ) → times_given i (grown 0 items) ≤ 1
  most i = (bound i _ (h i)).0

  fits : Fits 0 items
  fits = record {
    ordered = λ k l. subst (λ z. IsOrdered (grown z items)) (zero_only k l) o;
    once = λ i k l. subst (λ z. times_given i (grown z items) ≤ 1) (zero_only k l) (most i);
    given = λ i k l. subst (λ z. 1 ≤ times_given i (grown z items) → 2 ≤ i) (zero_only k l) (bound i _ (h i)).1;
  }

pub visible_stored : (visible trash : List Item) (next age : ℕ) → IsForest visible → IsSound (table_over visible trash next age) → AreStored visible
visible_stored visible trash next age f s = stored visible next f s.ordered (λ i. (let h = s.once i in omega (arith, h)))

pub trash_stored : (visible trash : List Item) (next age : ℕ) → IsForest trash → IsSound (table_over visible trash next age) → AreStored trash
trash_stored visible trash next age f s = stored trash next f (trash_ordered (grown 0 trash) s.trash_ordered) (λ i. (let h = s.once i in omega (arith, h)))

shown_same : (order : List ℕ) (n : Name) (visible trash : List Item) (next age : ℕ) → IsForest visible → IsForest trash → shown_items order n visible trash ≡ shown order (table_over visible trash next age) n
unfolding shown
shown_same order n visible trash next age f g =
    ap (λ z. either (in_directory n (root_of_items order 0 visible)) (either (in_directory n (root_of_items order 1 trash)) z))
    (ap (λ z. either (either (in_directory n (directory order (grown 0 visible))) z) (among_items order n trash)) (forest_inside order n visible f)
    ∙ ap (λ z. either (either (in_directory n (directory order (grown 0 visible))) (inside_rows order n (grown 0 visible))) (either (in_directory n (directory order (grown 0 trash))) z)) (forest_inside order n trash g)
    ∙ ap (either (either (in_directory n (directory order (grown 0 visible))) (inside_rows order n (grown 0 visible)))) (sym (either_none (either (in_directory n (directory order (grown 0 trash))) (inside_rows order n (grown 0 trash))))))

-- the records that were put are those of the table
pub records_live : (keys : Keys) (visible trash : List Item) (next age : ℕ) (empty records : Records) → IsForest visible → IsForest trash → empty ≡ [] → AreInOrder records
    → Adds keys.block (λ n. shown_items keys.order n visible trash) empty records → AreLive keys (table_over visible trash next age) records
records_live keys visible trash next age empty records f g e o h = record {
  order = o;
  each = λ n. h n ∙ ap (λ z. either (option_map (spelled keys.block n) (shown_items keys.order n visible trash)) (looked n z)) e
      ∙ either_none (option_map (spelled keys.block n) (shown_items keys.order n visible trash)) ∙ ap (option_map (spelled keys.block n)) (shown_same keys.order n visible trash next age f g);
}

pub root_puts : (key : List ℕ) (id : FileId) (inside : Unfolded) (node : Node) (a b : Records) → node_of (Folder id.0 [] Absent Absent inside) ≡ Some node
    → ((n : Name) → looked n b ≡ cond (same_name n (Entry id)) (Some (spelling node)) (looked n a)) → Adds key (λ n. in_directory n (Folder id.0 [] Absent Absent inside)) a b
root_puts key id inside node a b e h =
    adds_same key (λ n. cond (same_name n (Entry id)) (Some (Folder id.0 [] Absent Absent inside)) None) (λ n. in_directory n (Folder id.0 [] Absent Absent inside)) a b shape
    (adds_one key (Entry id) (Folder id.0 [] Absent Absent inside) (spelling node) a b h (λ n s. ap node_spelled e)) where
      shape : (n : Name) → cond (same_name n (Entry id)) (Some (Folder id.0 [] Absent Absent inside)) None ≡ in_directory n (Folder id.0 [] Absent Absent inside)
      shape (Entry i) = refl
      shape (Part f l i) = refl
      shape (Block f p) = refl

-- the root hash that the program takes
pub root_is : (order : List ℕ) (visible trash : List Item) (next age : ℕ) (h v t : List ℕ) → h ≡ sha256 (v ++ (t ++ to_be_bytes w64 next)) → v ≡ sha256 (node_record (root_of_items order 0 visible))
    → t ≡ sha256 (node_record (root_of_items order 1 trash)) → h ≡ root_hash order (table_over visible trash next age)
unfolding root_hash
root_is order visible trash next age h v t e f g =
    e ∙ ap (λ z. sha256 (z ++ (t ++ to_be_bytes w64 next))) f ∙ ap (λ z. sha256 (sha256 (node_record (root_of_items order 0 visible)) ++ (z ++ to_be_bytes w64 next))) g
