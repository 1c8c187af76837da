use Rattle.std.proofs.Common.{◌≡◌, ◌+◌, ◌||◌, ◌&&◌, ap, sym, ◌∙◌, arith, cond, true, false, Option, Some, is_some, not, slice_get}
use Rattle.std.specs.Option.{option_map}
use Rattle.std.specs.Map.{lookup, keys_of}
use Rattle.iris_name.specs.Names.{same_name}
use Rattle.iris_name.specs.NameLaws.{same_name_equiv, same_name-true}
use Rattle.iris_name.specs.declared.name.Name.{Name}
use Rattle.iris_node.specs.declared.node.Node.{Node}
use Rattle.iris_cache.specs.Drafted.{Drafted, is_set}
use Rattle.iris_cache.specs.Applied.{bare, node_written, node_of_change, spent}
use Rattle.iris_cache.specs.Resident.{has_room}
use Rattle.iris_cache.proofs.Drafts.{among, among-all, more-key, fresh-key, key-there}
use Rattle.iris_cache.proofs.Landing.{write-step, spend-step, room-step, set-node, set-some, spent-all, own-in}
use Rattle.iris_cache.proofs.cache.Cache.write.Goals as goal

pub land-requires-clause-alone : goal.land-requires-clause-alone
land-requires-clause-alone c = λ h is.
    let es = c.args.changes.now.entries in
    let i = c.loop-i.i in
    let n : Name = c.name_at-name.result in
    let inv = c.loop-i.invariant in
    let key : slice_get (keys_of es) i ≡ Some n = ap (λ ks. slice_get ks i) (sym inv.keys) ∙ c.name_at-name.ensures in
    let fresh : among i es n ≡ false = fresh-key (keys_of es) i n c.requires.draft.once key in
    let x = bare c.args.self.now n in
    let old : bare c.loop-i.self n ≡ x = inv.nodes n ∙ ap (λ b. cond b (node_written (node_of_change (lookup (same_name n) es)) x) x) fresh in
    c.requires.alone n h (key-there es i n key) (sym old ∙ is)

pub land-requires-clause-own : goal.land-requires-clause-own
land-requires-clause-own c = λ k is.
    let es = c.args.changes.now.entries in
    let D : Drafted = record { changes = es } in
    let i = c.loop-i.i in
    let n : Name = c.name_at-name.result in
    let inv = c.loop-i.invariant in
    let key : slice_get (keys_of es) i ≡ Some n = ap (λ ks. slice_get ks i) (sym inv.keys) ∙ c.name_at-name.ensures in
    let fresh : among i es n ≡ false = fresh-key (keys_of es) i n c.requires.draft.once key in
    let o = lookup (same_name n) es in
    let node = c.take_node-node.ensures.node ∙ ap node_of_change (inv.changes n ∙ ap (λ b. cond b (option_map spent o) o) fresh) in
    own-in D n k c.requires.draft (sym node ∙ is)

pub loop-i-preserved : goal.loop-i-preserved
loop-i-preserved c =
    let es = c.args.changes.now.entries in
    let i = c.loop-i.i in
    let n : Name = c.name_at-name.result in
    let inv = c.loop-i.invariant in
    let key : slice_get (keys_of es) i ≡ Some n = ap (λ ks. slice_get ks i) (sym inv.keys) ∙ c.name_at-name.ensures in
    let fresh : among i es n ≡ false = fresh-key (keys_of es) i n c.requires.draft.once key in
    let on = lookup (same_name n) es in
    let k : Option Node = c.take_node-node.result in
    let node : k ≡ node_of_change on = c.take_node-node.ensures.node ∙ ap node_of_change (inv.changes n ∙ ap (λ b. cond b (option_map spent on) on) fresh) in
    let fresh-at : (q : Name) → same_name n q ≡ true → among i es q ≡ false = λ q s. ap (among i es) (sym (same_name-true n q s)) ∙ fresh in
    let node-at : (q : Name) → same_name n q ≡ true → k ≡ node_of_change (lookup (same_name q) es) = λ q s. node ∙ ap (λ (p : Name). node_of_change (lookup (same_name p) es)) (same_name-true n q s) in
    let more : (q : Name) → (among i es q || same_name n q) ≡ among (i + 1) es q = λ q. ap (λ b. among i es q || b) (same_name_equiv.symm n q) ∙ sym (more-key (keys_of es) i n q key) in
    record {
      nodes = λ q.
          let o = lookup (same_name q) es in
          let x = bare c.args.self.now q in
          c.land.ensures.nodes q
          ∙ write-step (among i es q) (same_name n q) k o x (bare c.loop-i.self q) (fresh-at q) (node-at q) (inv.nodes q)
          ∙ ap (λ b. cond b (node_written (node_of_change o) x) x) (more q);
      room = λ q.
          let o = lookup (same_name q) es in
          let r = has_room c.args.self.now q in
          c.land.ensures.room q
          ∙ ap (λ b. b && not (same_name n q && is_some k)) (inv.room q)
          ∙ room-step r (among i es q) (same_name n q) (is_set o) (is_some k) (λ s. ap (λ (m : Option Node). is_some m) (node-at q s) ∙ sym (set-node o))
          ∙ ap (λ b. r && not (b && is_set o)) (more q);
      changes = λ q.
          let o = lookup (same_name q) es in
          c.take_node-node.ensures.changes q
          ∙ spend-step (among i es q) (same_name n q) o (lookup (same_name q) c.loop-i.changes.entries) (fresh-at q) (inv.changes q)
          ∙ ap (λ b. cond b (option_map spent o) o) (more q);
      keys = c.take_node-node.ensures.keys ∙ inv.keys;
    }

pub returns-clause-nodes : goal.returns-clause-nodes
returns-clause-nodes c = λ q.
    let es = c.args.changes.now.entries in
    let o = lookup (same_name q) es in
    let x = bare c.args.self.now q in
    let end = c.loop-i-test.false in
    let l = c.len-i-end.ensures.len in
    c.loop-i.invariant.nodes q ∙ ap (λ b. cond b (node_written (node_of_change o) x) x) (among-all es c.loop-i.i q (omega (arith, end, l)))

pub returns-clause-room : goal.returns-clause-room
returns-clause-room c = λ q.
    let es = c.args.changes.now.entries in
    let o = lookup (same_name q) es in
    let r = has_room c.args.self.now q in
    let end = c.loop-i-test.false in
    let l = c.len-i-end.ensures.len in
    c.loop-i.invariant.room q ∙ ap (λ b. r && not (b && is_set o)) (among-all es c.loop-i.i q (omega (arith, end, l))) ∙ ap (λ b. r && not b) (set-some o)

pub returns-clause-changes : goal.returns-clause-changes
returns-clause-changes c = λ q.
    let es = c.args.changes.now.entries in
    let o = lookup (same_name q) es in
    let end = c.loop-i-test.false in
    let l = c.len-i-end.ensures.len in
    c.loop-i.invariant.changes q ∙ ap (λ b. cond b (option_map spent o) o) (among-all es c.loop-i.i q (omega (arith, end, l))) ∙ spent-all o
