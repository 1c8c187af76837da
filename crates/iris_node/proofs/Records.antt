-- What is read from a whole record spells it, and what spells a record is read from it.
use Rattle.std.proofs.Common.{◌≡◌, ◌==◌, ◌&&◌, ℕ, ◌^◌, ◌<◌, ◌≤◌, Bool, true, false, cond, List, [], ◌∷◌, ◌++◌, length, Option, Some, None, Result, Ok, Err, refl, sym, ap, subst, ◌∙◌, append_assoc, ◌⊎◌, inl, inr}
use Rattle.std.specs.Prelude.{IsUtf8, IfOk, IfSome}
use Rattle.iris_name.specs.declared.want.NoMemory.{NoMemory}
use Rattle.std.specs.Int.{w32, w64, to_be_bytes}
use Rattle.std.proofs.lemmas.Bool.{eqb-true, and_parts, cases_lt}
use Rattle.std.proofs.lemmas.Str.{IsUtf8-nil}
use Rattle.std.proofs.lemmas.List.{append-nil, nil_from_length}
use Rattle.iris_node.specs.declared.node.Side.{Side}
use Rattle.iris_node.specs.declared.node.Link.{Link}
use Rattle.iris_node.specs.declared.node.Body.{Body}
use Rattle.iris_node.specs.declared.node.Body.TheVariants.{Dir, File}
use Rattle.iris_node.specs.declared.node.Node.{Node}
use Rattle.iris_node.specs.declared.node.Node.TheVariants.{Entry, Part}
use Rattle.iris_node.specs.Fields.{EntryFields, PartFields}
use Rattle.iris_node.specs.Nodes.{FitsBody, FitsEntry, FitsPart, IsNode}
use Rattle.iris_node.specs.Rules.{IsEntry, IsPart}
use Rattle.iris_node.specs.Spelling.{link, spelled_side, named, kind_byte, body, spelled_entry, part, spelling}
use Rattle.iris_node.specs.Reading.{◌>>=◌, Reads, number_at, read_byte, link_at, side_at, named_at, body_at, read_entry, part_at}
use Rattle.iris_node.specs.Unfolded.{id_of}
use Rattle.iris_node.specs.Tests.{is_entry, is_part}
use Rattle.iris_node.specs.Whole.{whole_entry, whole_part, whole_node}
use Rattle.iris_node.proofs.Deciding.{entry_kept, entry_test, part_kept, part_test}
use Rattle.iris_node.proofs.Pieces.{IsBytes, IsBytes-rest, bind_some, met_some, some_is, Takes, Takes-then, wide32, wide64, number_takes, number_again, byte_takes, link_takes, link_again, side_takes, side_again, named_takes, named_again}

-- ---- bodies

dir_takes : (bytes : List ℕ) (x : Body × List ℕ) → IsBytes bytes → (link_at bytes >>= λ top. Some (Dir top.0, top.1)) ≡ Some x → Takes bytes (body x.0) x.1 × FitsBody x.0 × (kind_byte x.0 ≡ 1)
dir_takes bytes x fits e =
    let a = bind_some (link_at bytes) (λ top. Some (Dir top.0, top.1)) x e in
    let t = link_takes bytes a.0 fits a.1 in
    let made : Body × List ℕ = (Dir a.0.0, a.0.1) in
    subst (λ (y : Body × List ℕ). Takes bytes (body y.0) y.1 × FitsBody y.0 × (kind_byte y.0 ≡ 1)) (some_is made x a.2) (t.0, t.1, refl)

file_takes : (bytes : List ℕ) (x : Body × List ℕ) → IsBytes bytes
    → (number_at w64 bytes >>= λ size. number_at w64 size.1 >>= λ counter. side_at counter.1 >>= λ versions. Some (File size.0 counter.0 versions.0, versions.1)) ≡ Some x
    → Takes bytes (body x.0) x.1 × FitsBody x.0 × (kind_byte x.0 ≡ 2)
file_takes bytes x fits e =
    let a = bind_some (number_at w64 bytes) (λ size. number_at w64 size.1 >>= λ counter. side_at counter.1 >>= λ versions. Some (File size.0 counter.0 versions.0, versions.1)) x e in
    let b = bind_some (number_at w64 a.0.1) (λ counter. side_at counter.1 >>= λ versions. Some (File a.0.0 counter.0 versions.0, versions.1)) x a.2 in
    let c = bind_some (side_at b.0.1) (λ versions. Some (File a.0.0 b.0.0 versions.0, versions.1)) x b.2 in
    let t0 = number_takes w64 (2 ^ 64) wide64 bytes a.0.0 a.0.1 fits a.1 in
    let t1 = number_takes w64 (2 ^ 64) wide64 a.0.1 b.0.0 b.0.1 t0.0.rest_fits b.1 in
    let t2 = side_takes b.0.1 c.0 t1.0.rest_fits c.1 in
    let e12 = Takes-then a.0.1 (to_be_bytes w64 b.0.0) b.0.1 (spelled_side c.0.0) c.0.1 t1.0 t2.0 in
    let e02 = Takes-then bytes (to_be_bytes w64 a.0.0) a.0.1 (to_be_bytes w64 b.0.0 ++ spelled_side c.0.0) c.0.1 t0.0 e12 in
    let made : Body × List ℕ = (File a.0.0 b.0.0 c.0.0, c.0.1) in
    subst (λ (y : Body × List ℕ). Takes bytes (body y.0) y.1 × FitsBody y.0 × (kind_byte y.0 ≡ 2)) (some_is made x c.2) (e02, (t0.1, t1.1, t2.1), refl)

chosen : {A : Type 0} (t u : Bool) (x y z : Option A) (P : Type 0) → (t ≡ true → x ≡ z → P) → (u ≡ true → y ≡ z → P) → (None ≡ z → P) → cond t x (cond u y None) ≡ z → P
chosen true u x y z P f g h e = f refl e
chosen false true x y z P f g h e = g refl e
chosen false false x y z P f g h e = h e

body_takes : (k : ℕ) (bytes : List ℕ) (x : Body × List ℕ) → IsBytes bytes → body_at k bytes ≡ Some x → Takes bytes (body x.0) x.1 × FitsBody x.0 × (kind_byte x.0 ≡ k)
unfolding body_at
body_takes k bytes x fits e =
    chosen (k == 1) (k == 2) _ _ (Some x) (Takes bytes (body x.0) x.1 × FitsBody x.0 × (kind_byte x.0 ≡ k))
    (λ t h. let d = dir_takes bytes x fits h in (d.0, d.1, d.2 ∙ sym (eqb-true k 1 t)))
    (λ t h. let d = file_takes bytes x fits h in (d.0, d.1, d.2 ∙ sym (eqb-true k 2 t)))
    (λ h. absurd cc) e

body_again : (b : Body) (rest : List ℕ) → FitsBody b → body_at (kind_byte b) (body b ++ rest) ≡ Some (b, rest)
unfolding body_at
body_again (Dir top) rest h = rw (link_again top rest h) refl
body_again (File size counter versions) rest h =
    let regrouped : body (File size counter versions) ++ rest ≡ to_be_bytes w64 size ++ (to_be_bytes w64 counter ++ (spelled_side versions ++ rest)) =
    append_assoc (to_be_bytes w64 size) (to_be_bytes w64 counter ++ spelled_side versions) rest ∙ ap (λ (w : List ℕ). to_be_bytes w64 size ++ w) (append_assoc (to_be_bytes w64 counter) (spelled_side versions) rest) in
    ap (body_at 2) regrouped ∙ rw (number_again w64 (2 ^ 64) wide64 size (to_be_bytes w64 counter ++ (spelled_side versions ++ rest)) h.0, number_again w64 (2 ^ 64) wide64 counter (spelled_side versions ++ rest) h.1, side_again versions rest h.2) refl

-- ---- entries

abbrev made_entry : ℕ → List ℕ → Option Link → Option Link → Body → EntryFields
made_entry i n l r b = record { id = id_of i; name = n; left = l; right = r; body = b }

abbrev EntryTaken : ℕ → List ℕ → EntryFields × List ℕ → Type 0
EntryTaken k bytes x = Takes bytes (spelled_entry x.0) x.1 × FitsEntry x.0 × IsUtf8 x.0.name × (kind_byte x.0.body ≡ k)

entry_takes : (k : ℕ) (bytes : List ℕ) (x : EntryFields × List ℕ) → IsBytes bytes → read_entry k bytes ≡ Some x → EntryTaken k bytes x
unfolding read_entry
entry_takes k bytes x fits e =
    let a = bind_some (number_at w64 bytes) (λ id. named_at id.1 >>= λ name. link_at name.1 >>= λ left. link_at left.1 >>= λ right. body_at k right.1 >>= λ body_. Some (made_entry id.0 name.0 left.0 right.0 body_.0, body_.1)) x e in
    let b = bind_some (named_at a.0.1) (λ name. link_at name.1 >>= λ left. link_at left.1 >>= λ right. body_at k right.1 >>= λ body_. Some (made_entry a.0.0 name.0 left.0 right.0 body_.0, body_.1)) x a.2 in
    let c = bind_some (link_at b.0.1) (λ left. link_at left.1 >>= λ right. body_at k right.1 >>= λ body_. Some (made_entry a.0.0 b.0.0 left.0 right.0 body_.0, body_.1)) x b.2 in
    let d = bind_some (link_at c.0.1) (λ right. body_at k right.1 >>= λ body_. Some (made_entry a.0.0 b.0.0 c.0.0 right.0 body_.0, body_.1)) x c.2 in
    let f = bind_some (body_at k d.0.1) (λ body_. Some (made_entry a.0.0 b.0.0 c.0.0 d.0.0 body_.0, body_.1)) x d.2 in
    let t0 = number_takes w64 (2 ^ 64) wide64 bytes a.0.0 a.0.1 fits a.1 in
    let t1 = named_takes a.0.1 b.0 t0.0.rest_fits b.1 in
    let t2 = link_takes b.0.1 c.0 t1.0.rest_fits c.1 in
    let t3 = link_takes c.0.1 d.0 t2.0.rest_fits d.1 in
    let t4 = body_takes k d.0.1 f.0 t3.0.rest_fits f.1 in
    let e34 = Takes-then c.0.1 (link d.0.0) d.0.1 (body f.0.0) f.0.1 t3.0 t4.0 in
    let e24 = Takes-then b.0.1 (link c.0.0) c.0.1 (link d.0.0 ++ body f.0.0) f.0.1 t2.0 e34 in
    let e14 = Takes-then a.0.1 (named b.0.0) b.0.1 (link c.0.0 ++ (link d.0.0 ++ body f.0.0)) f.0.1 t1.0 e24 in
    let e04 = Takes-then bytes (to_be_bytes w64 a.0.0) a.0.1 (named b.0.0 ++ (link c.0.0 ++ (link d.0.0 ++ body f.0.0))) f.0.1 t0.0 e14 in
    let made : EntryFields × List ℕ = (made_entry a.0.0 b.0.0 c.0.0 d.0.0 f.0.0, f.0.1) in
    let ranges : FitsEntry made.0 = record { id = t0.1; left = t2.1; right = t3.1; body = t4.1 } in
    subst (EntryTaken k bytes) (some_is made x f.2) (e04, ranges, t1.1, t4.2)

regroup : (a b c d e rest : List ℕ) → (a ++ (b ++ (c ++ (d ++ e)))) ++ rest ≡ a ++ (b ++ (c ++ (d ++ (e ++ rest))))
regroup a b c d e rest = simp append_assoc

entry_again : (e : EntryFields) (rest : List ℕ) → IsUtf8 e.name → FitsEntry e → read_entry (kind_byte e.body) (spelled_entry e ++ rest) ≡ Some (e, rest)
unfolding read_entry
entry_again e rest u h =
    let i = to_be_bytes w64 e.id.0 in
    ap (read_entry (kind_byte e.body)) (regroup (to_be_bytes w64 e.id.0) (named e.name) (link e.left) (link e.right) (body e.body) rest)
    ∙ rw (
      number_again w64 (2 ^ 64) wide64 e.id.0 (named e.name ++ (link e.left ++ (link e.right ++ (body e.body ++ rest)))) h.id,
      named_again e.name (link e.left ++ (link e.right ++ (body e.body ++ rest))) u,
      link_again e.left (link e.right ++ (body e.body ++ rest)) h.left,
      link_again e.right (body e.body ++ rest) h.right,
      body_again e.body rest h.body,
    ) refl

-- ---- parts

abbrev made_part : ℕ → ℕ → ℕ → Side → Side → PartFields
made_part f l i a b = record { file = id_of f; level = l; index = i; low = a; high = b }

abbrev PartTaken : List ℕ → PartFields × List ℕ → Type 0
PartTaken bytes x = Takes bytes (part x.0) x.1 × FitsPart x.0

part_takes : (bytes : List ℕ) (x : PartFields × List ℕ) → IsBytes bytes → part_at bytes ≡ Some x → PartTaken bytes x
unfolding part_at
part_takes bytes x fits e =
    let a = bind_some (number_at w64 bytes) (λ file. read_byte file.1 >>= λ level. number_at w32 level.1 >>= λ index. side_at index.1 >>= λ low. side_at low.1 >>= λ high. Some (made_part file.0 level.0 index.0 low.0 high.0, high.1)) x e in
    let b = bind_some (read_byte a.0.1) (λ level. number_at w32 level.1 >>= λ index. side_at index.1 >>= λ low. side_at low.1 >>= λ high. Some (made_part a.0.0 level.0 index.0 low.0 high.0, high.1)) x a.2 in
    let c = bind_some (number_at w32 b.0.1) (λ index. side_at index.1 >>= λ low. side_at low.1 >>= λ high. Some (made_part a.0.0 b.0.0 index.0 low.0 high.0, high.1)) x b.2 in
    let d = bind_some (side_at c.0.1) (λ low. side_at low.1 >>= λ high. Some (made_part a.0.0 b.0.0 c.0.0 low.0 high.0, high.1)) x c.2 in
    let f = bind_some (side_at d.0.1) (λ high. Some (made_part a.0.0 b.0.0 c.0.0 d.0.0 high.0, high.1)) x d.2 in
    let t0 = number_takes w64 (2 ^ 64) wide64 bytes a.0.0 a.0.1 fits a.1 in
    let t1 = byte_takes a.0.1 b.0 t0.0.rest_fits b.1 in
    let t2 = number_takes w32 (2 ^ 32) wide32 b.0.1 c.0.0 c.0.1 t1.rest_fits c.1 in
    let t3 = side_takes c.0.1 d.0 t2.0.rest_fits d.1 in
    let t4 = side_takes d.0.1 f.0 t3.0.rest_fits f.1 in
    let e34 = Takes-then c.0.1 (spelled_side d.0.0) d.0.1 (spelled_side f.0.0) f.0.1 t3.0 t4.0 in
    let e24 = Takes-then b.0.1 (to_be_bytes w32 c.0.0) c.0.1 (spelled_side d.0.0 ++ spelled_side f.0.0) f.0.1 t2.0 e34 in
    let e14 = Takes-then a.0.1 (b.0.0 ∷ []) b.0.1 (to_be_bytes w32 c.0.0 ++ (spelled_side d.0.0 ++ spelled_side f.0.0)) f.0.1 t1 e24 in
    let e04 = Takes-then bytes (to_be_bytes w64 a.0.0) a.0.1 ((b.0.0 ∷ []) ++ (to_be_bytes w32 c.0.0 ++ (spelled_side d.0.0 ++ spelled_side f.0.0))) f.0.1 t0.0 e14 in
    let made : PartFields × List ℕ = (made_part a.0.0 b.0.0 c.0.0 d.0.0 f.0.0, f.0.1) in
    let ranges : FitsPart made.0 = record { file = t0.1; index = t2.1; low = t3.1; high = t4.1 } in
    subst (PartTaken bytes) (some_is made x f.2) (e04, ranges)

part_again : (p : PartFields) (rest : List ℕ) → FitsPart p → part_at (part p ++ rest) ≡ Some (p, rest)
unfolding part_at
part_again p rest h =
    ap part_at (regroup (to_be_bytes w64 p.file.0) (p.level ∷ []) (to_be_bytes w32 p.index) (spelled_side p.low) (spelled_side p.high) rest)
    ∙ rw (
      number_again w64 (2 ^ 64) wide64 p.file.0 ((p.level ∷ []) ++ (to_be_bytes w32 p.index ++ (spelled_side p.low ++ (spelled_side p.high ++ rest)))) h.file,
      number_again w32 (2 ^ 32) wide32 p.index (spelled_side p.low ++ (spelled_side p.high ++ rest)) h.index,
      side_again p.low (spelled_side p.high ++ rest) h.low,
      side_again p.high rest h.high,
    ) refl

-- ---- whole records

ended : (bytes text rest : List ℕ) → Takes bytes text rest → (length rest == 0) ≡ true → bytes ≡ text
ended bytes text rest t h = t.parts ∙ ap (λ (r : List ℕ). text ++ r) (nil_from_length rest (eqb-true (length rest) 0 h)) ∙ append-nil text

part_is_whole : (format : ℕ) (bytes : List ℕ) (p : PartFields) → IsBytes bytes → whole_part format bytes ≡ Some p → (IsPart p × FitsPart p) × (format ≡ 1) × (bytes ≡ part p)
unfolding whole_part
part_is_whole format bytes p fits e =
    let a = bind_some (part_at bytes) (λ x. cond ((format == 1) && ((length x.1 == 0) && is_part x.0)) (Some x.0) None) p e in
    let m = met_some ((format == 1) && ((length a.0.1 == 0) && is_part a.0.0)) a.0.0 p a.2 in
    let f = and_parts _ _ m.0 in
    let g = and_parts _ _ f.1 in
    let t = part_takes bytes a.0 fits a.1 in
    subst (λ (y : PartFields). (IsPart y × FitsPart y) × (format ≡ 1) × (bytes ≡ part y)) m.1
    ((part_kept a.0.0 g.1, t.1), eqb-true format 1 f.0, ended bytes (part a.0.0) a.0.1 t.0 g.0)

entry_is_whole : (format k : ℕ) (bytes : List ℕ) (e : EntryFields) → IsBytes bytes → whole_entry format k bytes ≡ Some e → (IsEntry e × FitsEntry e) × (format ≡ 1) × (k ≡ kind_byte e.body) × (bytes ≡ spelled_entry e)
unfolding whole_entry
entry_is_whole format k bytes e fits h =
    let a = bind_some (read_entry k bytes) (λ x. cond ((format == 1) && ((length x.1 == 0) && is_entry x.0)) (Some x.0) None) e h in
    let m = met_some ((format == 1) && ((length a.0.1 == 0) && is_entry a.0.0)) a.0.0 e a.2 in
    let f = and_parts _ _ m.0 in
    let g = and_parts _ _ f.1 in
    let t = entry_takes k bytes a.0 fits a.1 in
    subst (λ (y : EntryFields). (IsEntry y × FitsEntry y) × (format ≡ 1) × (k ≡ kind_byte y.body) × (bytes ≡ spelled_entry y)) m.1
    ((entry_kept a.0.0 t.2 g.1, t.1), eqb-true format 1 f.0, sym t.3, ended bytes (spelled_entry a.0.0) a.0.1 t.0 g.0)

either_way : {A : Type 0} (t : Bool) (x y z : Option A) (P : Type 0) → (t ≡ true → x ≡ z → P) → (y ≡ z → P) → cond t x y ≡ z → P
either_way true x y z P f g e = f refl e
either_way false x y z P f g e = g e

abbrev Found : List ℕ → Node → Type 0
Found bytes n = IsNode n × (bytes ≡ spelling n)

-- what is read is a node, and spelled so
pub node_takes : (bytes : List ℕ) (n : Node) → IsBytes bytes → whole_node bytes ≡ Some n → IsNode n × (bytes ≡ spelling n)
unfolding whole_node spelling
node_takes [] n fits e = absurd cc
node_takes (f ∷ []) n fits e = absurd cc
node_takes (f ∷ k ∷ bytes) n fits e =
    let inner = IsBytes-rest k bytes (IsBytes-rest f (k ∷ bytes) fits) in
    either_way (k == 3) (whole_part f bytes >>= λ p. Some (Part p)) (whole_entry f k bytes >>= λ x. Some (Entry x)) (Some n) (Found (f ∷ k ∷ bytes) n)
    (λ t h.
    let a = bind_some (whole_part f bytes) (λ p. Some (Part p)) n h in
    let w = part_is_whole f bytes a.0 inner a.1 in
    let same : f ∷ k ∷ bytes ≡ 1 ∷ 3 ∷ part a.0 = let x = w.1 in let y : k ≡ 3 = eqb-true k 3 t in let z = w.2 in cc in
    subst (Found (f ∷ k ∷ bytes)) (some_is (Part a.0) n a.2) (w.0, same))
    (λ h.
    let a = bind_some (whole_entry f k bytes) (λ x. Some (Entry x)) n h in
    let w = entry_is_whole f k bytes a.0 inner a.1 in
    let same : f ∷ k ∷ bytes ≡ 1 ∷ kind_byte a.0.body ∷ spelled_entry a.0 = let x = w.1 in let y = w.2 in let z = w.3 in cc in
    subst (Found (f ∷ k ∷ bytes)) (some_is (Entry a.0) n a.2) (w.0, same))
    e

utf8_of : (e : EntryFields) → IsEntry e → IsUtf8 e.name
utf8_of e h = by (cases_lt e.id.0 2)
  where
    by : (e.id.0 < 2) ⊎ (2 ≤ e.id.0) → IsUtf8 e.name
    by (inl lt) = subst IsUtf8 (sym (h.root lt).name) IsUtf8-nil
    by (inr le) = (h.name le).text

kind_not : (b : Body) → (kind_byte b == 3) ≡ false
kind_not (Dir top) = refl
kind_not (File size counter versions) = refl

-- what spells a node is read as that node
pub node_again : (n : Node) → IsNode n → whole_node (spelling n) ≡ Some n
unfolding whole_node spelling whole_part whole_entry
node_again (Part p) h =
    let same = ap part_at (sym (append-nil (part p))) ∙ part_again p [] h.1 in
    rw (same, part_test p h.0) refl
node_again (Entry e) h =
    let same = ap (read_entry (kind_byte e.body)) (sym (append-nil (spelled_entry e))) ∙ entry_again e [] (utf8_of e h.0) h.1 in
    rw (kind_not e.body, same, entry_test e h.0) refl

pub is_found : (bytes : List ℕ) (r : Result (Option Node) NoMemory) → IsBytes bytes → IfOk r (λ o. Reads (λ n. n) o (whole_node bytes)) → IfOk r (λ o. IfSome o (λ n. IsNode n × (bytes ≡ spelling n)))
is_found bytes (Ok (Some n)) fits h = node_takes bytes n fits h
is_found bytes (Ok None) fits h = tt
is_found bytes (Err e) fits h = tt

pub is_read : (bytes : List ℕ) (r : Result (Option Node) NoMemory) (n : Node) → IfOk r (λ o. Reads (λ n. n) o (whole_node bytes)) → IsNode n → bytes ≡ spelling n → IfOk r (λ o. o ≡ Some n)
is_read bytes (Ok (Some m)) n h k e = sym h ∙ ap whole_node e ∙ node_again n k
is_read bytes (Ok None) n h k e = sym h ∙ ap whole_node e ∙ node_again n k
is_read bytes (Err x) n h k e = tt

-- two nodes of one spelling are one
pub same_spelling : (a b : Node) → IsNode a → IsNode b → spelling a ≡ spelling b → a ≡ b
same_spelling a b h k e = some_is a b (sym (node_again a h) ∙ ap whole_node e ∙ node_again b k)
