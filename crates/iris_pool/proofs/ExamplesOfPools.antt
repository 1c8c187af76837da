-- What is out as the invariant sees it, pools that are and that aren't, and what comes and stays alike, by small cases.
use Rattle.std.proofs.Common.{◌≡◌, ℕ, List, [], ◌∷◌, Bool, true, false, cond, Option, Some, None, refl, sym, ◌∙◌, ap, arith}
use Rattle.std.proofs.lemmas.Option.{some_pair_parts}
use Rattle.iris_cache.specs.declared.held.Held.{Held}
use Rattle.iris_cache.specs.Held.{begun_node, newcomer_node, pinned_node}
use Rattle.iris_cache.specs.Laws.{AreAlike}
use Rattle.iris_desk.specs.AtDesk.{empty_desk}
use Rattle.iris_desk.specs.AtDesks.{DesksState}
use Rattle.iris_desk.specs.declared.out.Doing.TheVariants.{Get, Put, Discard, Settle}
use Rattle.iris_desk.specs.declared.out.Out as pending
use Rattle.iris_desk.specs.declared.out.Record.TheVariants.{Node, Page}
use Rattle.iris_invariant.specs.Agrees.{Getting, Putting, Dropping, Settling, Out}
use Rattle.iris_invariant.specs.Cells.{Tied}
use Rattle.iris_name.specs.declared.name.FileId.{FileId}
use Rattle.iris_name.specs.declared.name.Name.{Name}
use Rattle.iris_name.specs.declared.name.Name.TheVariants.{Entry, Block}
use Rattle.iris_name.specs.declared.note.Expect.TheVariants.{Version}
use Rattle.iris_name.specs.declared.request.Request.TheVariants.{Sync}
use Rattle.iris_name.specs.Hmac.{record_of}
use Rattle.iris_name.specs.Names.{same_name}
use Rattle.iris_name.specs.NameLaws.{same_name-symm}
use Rattle.iris_node.specs.declared.node.Body.TheVariants.{Dir}
use Rattle.iris_node.specs.declared.node.Node as nodes
use Rattle.iris_node.specs.declared.node.Node.TheVariants as node
use Rattle.iris_pool.specs.Changes.{HoldsAlike, NodeComes}
use Rattle.iris_pool.specs.Pool.{PoolState}
use Rattle.iris_pool.specs.View.{IsPool, doing_by, out_by, out_seen}

abbrev id : FileId
id = record { 0 = 2 }

abbrev n : Name
n = Entry id

abbrev folder : nodes.Node
folder = node.Entry (record { id = id; name = []; left = None; right = None; body = Dir None })

-- ---- what is out

-- a get, a put of a node and of a block, a discard, a settling
getting : doing_by [] n Get (Some (Version 3)) None ≡ Getting (Version 3)
getting = refl

putting_node : doing_by [] n Put None (Some (Node (7 ∷ []))) ≡ Putting (7 ∷ [])
putting_node = refl

-- a block is written with its tag under the key
putting_block : (key : List ℕ) → doing_by key (Block id 5) Put None (Some (Page 4 (7 ∷ []))) ≡ Putting (record_of key 2 5 4 (7 ∷ []))
putting_block key = refl

dropping : doing_by [] n Discard None None ≡ Dropping
dropping = refl

settling : doing_by [] n Settle None None ≡ Settling
settling = refl

abbrev put : Bool → pending.Out
put touched = record { doing = Put; name = n; since = 3; expect = None; crowded = true; «record» = Some (Node (7 ∷ [])); touched = touched }

-- caller 1 asks for a sync, and a put of n is out for it
abbrev desks : Bool → DesksState
desks touched = record { desks = empty_desk ∷ record { request = Some Sync; out = put touched ∷ []; kept = [] } ∷ []; doomed = []; room = 0 }

-- it is out at its desk, for the request that is asked there
put_seen : out_seen [] (desks true) n ≡ Some (record { who = 1; since = 3; request = Some Sync; doing = Putting (7 ∷ []); crowded = true; touched = true })
put_seen = refl

nothing_seen : out_seen [] (desks true) (Block id 5) ≡ None
nothing_seen = refl

-- ---- pools

abbrev held : Held
held = record (begun_node 1 (newcomer_node None folder 3 0)) { dirty = true }

abbrev pool : Bool → Held → PoolState
pool touched h = record { nodes = record { nodes = (n, h) ∷ []; room = [] }; pages = record { pages = []; room = [] }; desks = desks touched }

abbrev put_out : Option (ℕ × pending.Out)
put_out = Some (1, put true)

-- touched in the cache and at the desk
abbrev touched : Held
touched = record held { touched = true }

is_pool : IsPool (pool true touched)
is_pool = record {
  nodes = λ key m is. tied key (same_name m n);
  pages = λ key m is. record { touched = λ g o e f t. absurd (none g e); unknown = λ g o e f t. absurd (none g e) };
  known = λ m h who is e on. known (same_name m n) h who e on;
  known_page = λ m h who is e on. absurd (none h e);
  places = λ m who o at get off absent. absurd (not_get (same_name m n) who o at get);
} where
  none : {A : Type 0} (x : A) → None ≡ Some x → ⊥
  none x e = absurd (cc)

  tied : (key : List ℕ) (b : Bool) → Tied (cond b (Some touched) None) (out_by key (desks true) (cond b put_out None))
  tied key true = record { touched = λ g o e f t. on key o f; unknown = λ g o e f t. on key o f } where
    on : (key : List ℕ) (o : Out) → out_by key (desks true) put_out ≡ Some o → o.touched ≡ true
    on key o f = let i : out_by key (desks true) put_out ≡ Some (record { who = 1; since = 3; request = Some Sync; doing = Putting (7 ∷ []); crowded = true; touched = true }) = refl in
        let h : record { who = 1; since = 3; request = Some Sync; doing = Putting (7 ∷ []); crowded = true; touched = true } ≡ o = cc in sym (ap (λ (z : Out). z.touched) h)
  tied key false = record { touched = λ g o e f t. absurd (none g e); unknown = λ g o e f t. absurd (none g e) }

  known : (b : Bool) (h : Held) (who : ℕ) → cond b (Some touched) None ≡ Some h → h.out ≡ Some who → (o : pending.Out) × (cond b put_out None ≡ Some (who, o))
  known true h who e on = let i : touched ≡ h = cc in let j : Some 1 ≡ Some who = ap (λ (z : Held). z.out) i ∙ on in let k : 1 ≡ who = cc in (put true, ap (λ w. Some (w, put true)) k)
  known false h who e on = absurd (none h e)

  not_get : (b : Bool) (who : ℕ) (o : pending.Out) → cond b put_out None ≡ Some (who, o) → o.doing ≡ Get → ⊥
  not_get true who o e get = absurd (let i = some_pair_parts 1 who (put true) o e in let j : Put ≡ Get = ap (λ (z : pending.Out). z.doing) i.1 ∙ get in cc)
  not_get false who o e get = absurd (none (who, o) e)

-- touched in the cache and not at the desk
cache_alone : IsPool (pool false touched) → ⊥
cache_alone p = absurd (let e : false ≡ true = (p.nodes [] n tt).touched touched (record { who = 1; since = 3; request = Some Sync; doing = Putting (7 ∷ []); crowded = true; touched = false }) refl refl refl in cc)

-- out in the cache for another caller than at the desk
for_another : IsPool (pool true (record touched { out = Some 4 })) → ⊥
for_another p = absurd (let k = p.known n (record touched { out = Some 4 }) 4 tt refl refl in let i = some_pair_parts 1 4 (put true) k.0 k.1 in let e : 1 ≡ 4 = i.0 in omega (arith, e))

-- ---- what comes, and what stays alike

abbrev empty : PoolState
empty = record { nodes = record { nodes = []; room = n ∷ [] }; pages = record { pages = []; room = [] }; desks = desks true }

abbrev came : Held
came = newcomer_node None folder 3 0

came_pinned : NodeComes empty (pool true came) 3 None n folder
came_pinned = (0, λ m. ap (λ b. cond b (Some came) None) (same_name-symm m n))

-- pinned for another caller
came_for_another : NodeComes empty (pool true (newcomer_node None folder 4 0)) 3 None n folder → ⊥
came_for_another c = absurd (let e : Some (newcomer_node None folder 4 0) ≡ Some (newcomer_node None folder 3 c.0) = c.1 n in
    let i : newcomer_node None folder 4 0 ≡ newcomer_node None folder 3 c.0 = cc in let h : 16 ≡ 8 = ap (λ (z : Held). z.pins) i in omega (arith, h))

-- pins, marks and what is out make no difference, and what is settled does
alike : HoldsAlike (pool true came) (pool true (pinned_node 4 touched))
alike = record { nodes = λ m. by (same_name m n); pages = λ m. tt } where
  by : (b : Bool) → AreAlike (cond b (Some came) None) (cond b (Some (pinned_node 4 touched)) None)
  by true = (refl, (refl, refl))
  by false = tt

unsettled : HoldsAlike (pool true came) (pool true (record came { settled = false })) → ⊥
unsettled a = absurd (let e : false ≡ true = (a.nodes n).1.1 in cc)
