-- What a draft leaves, change by change.
use Rattle.std.proofs.Common.{◌≡◌, ◌||◌, ◌&&◌, ℕ, Bool, true, false, cond, Option, Some, None, refl, ap, sym, ◌∙◌, true≢false, is_some, not}
use Rattle.std.specs.Option.{option_map}
use Rattle.iris_name.specs.declared.name.Name.{Name}
use Rattle.iris_node.specs.declared.node.Node.{Node}
use Rattle.iris_cache.specs.declared.held.Held.{Held}
use Rattle.iris_cache.specs.declared.draft.Change.{Change}
use Rattle.iris_cache.specs.Held.{with_parent, with_kids}
use Rattle.iris_cache.specs.Drafted.{Drafted, drafted, is_set, IsDraft}
use Rattle.iris_node.specs.Nodes.{name_of}
use Rattle.iris_cache.specs.Applied.{bare, hung, node_written, node_of_change, spent, landed_node, landed_node_by}
use Rattle.iris_cache.specs.Resident.{Resident, held_node, children, map_if, IsSoundCache}

-- to take from a parent twice is to do so once
pub unhung-twice : (b a : Bool) (o : Option Held) → map_if a (with_parent None) (map_if b (with_parent None) o) ≡ map_if (b || a) (with_parent None) o
unhung-twice true true None = refl
unhung-twice true true (Some h) = refl
unhung-twice true false o = refl
unhung-twice false a o = refl

pub hang-step : (a s : Bool) (v : Change) (o : Option Change) (x y : Option Held) → (s ≡ true → (a ≡ false) × (o ≡ Some v)) → y ≡ cond a (hung o x) x → map_if s (with_parent v.parent) y ≡ cond (a || s) (hung o x) x
hang-step true true v o x y f is = absurd (true≢false ((f refl).0))
hang-step false true v o x y f is = ap (option_map (with_parent v.parent)) is ∙ ap (λ c. hung c x) (sym ((f refl).1))
hang-step true false v o x y f is = is
hang-step false false v o x y f is = is

pub hung-all : (o : Option Change) (x : Option Held) → cond (is_some o) (hung o x) x ≡ hung o x
hung-all None x = refl
hung-all (Some v) x = refl

pub write-step : (a s : Bool) (k : Option Node) (o : Option Change) (x y : Option Held) → (s ≡ true → a ≡ false) → (s ≡ true → k ≡ node_of_change o) → y ≡ cond a (node_written (node_of_change o) x) x
    → cond s (node_written k y) y ≡ cond (a || s) (node_written (node_of_change o) x) x
write-step true true k o x y f g is = absurd (true≢false (f refl))
write-step false true k o x y f g is = ap (node_written k) is ∙ ap (λ n. node_written n x) (g refl)
write-step true false k o x y f g is = is
write-step false false k o x y f g is = is

pub spend-step : (a s : Bool) (o y : Option Change) → (s ≡ true → a ≡ false) → y ≡ cond a (option_map spent o) o → cond s (option_map spent y) y ≡ cond (a || s) (option_map spent o) o
spend-step true true o y f is = absurd (true≢false (f refl))
spend-step false true o y f is = ap (option_map spent) is
spend-step true false o y f is = is
spend-step false false o y f is = is

pub room-step : (r a s t p : Bool) → (s ≡ true → p ≡ t) → ((r && not (a && t)) && not (s && p)) ≡ (r && not ((a || s) && t))
room-step false a s t p f = refl
room-step true true true true p f = refl
room-step true true true false p f = ap not (f refl)
room-step true true false true p f = refl
room-step true true false false p f = refl
room-step true false true t p f = ap not (f refl)
room-step true false false t p f = refl

pub set-node : (o : Option Change) → is_set o ≡ is_some (node_of_change o)
set-node None = refl
set-node (Some v) = refl

pub set-some : (o : Option Change) → (is_some o && is_set o) ≡ is_set o
set-some None = refl
set-some (Some v) = refl

pub spent-all : (o : Option Change) → cond (is_some o) (option_map spent o) o ≡ option_map spent o
spent-all None = refl
spent-all (Some v) = refl

own-of : (d : Drafted) (n : Name) (k : Node) → IsDraft d → (o : Option Change) → drafted d n ≡ o → node_of_change o ≡ Some k → name_of k ≡ n
own-of d n k draft None is at = absurd (true≢false (sym (ap (λ (x : Option Node). is_some x) at)))
own-of d n k draft (Some v) is at = draft.own n v k is at

pub own-in : (d : Drafted) (n : Name) (k : Node) → IsDraft d → node_of_change (drafted d n) ≡ Some k → name_of k ≡ n
own-in d n k draft at = own-of d n k draft (drafted d n) refl at

landing-in : (p : Option Name) (k : Option Node) (y : Option Held) → option_map (with_parent p) (node_written k (option_map (with_parent None) (option_map (with_kids 0) y))) ≡ option_map (with_kids 0) (landed_node_by p k y)
landing-in p None y = refl
landing-in p (Some k) None = refl
landing-in p (Some k) (Some h) = refl

-- what the four passes leave of a name
pub landing : (o : Option Change) (y : Option Held)
    → hung (option_map spent o) (cond (is_some o) (node_written (node_of_change o) (map_if (is_some o) (with_parent None) (option_map (with_kids 0) y))) (map_if (is_some o) (with_parent None) (option_map (with_kids 0) y))) ≡ option_map (with_kids 0) (landed_node o y)
landing None y = refl
landing (Some v) y = landing-in v.parent v.node y

kids-again : (m : ℕ) (y : Option Held) → option_map (with_kids m) (option_map (with_kids 0) y) ≡ option_map (with_kids m) y
kids-again m None = refl
kids-again m (Some h) = refl

with-own-kids : (m : ℕ) (o : Option Held) → ((h : Held) → o ≡ Some h → h.kids ≡ m) → o ≡ option_map (with_kids m) (option_map (with_kids 0) o)
with-own-kids m None f = refl
with-own-kids m (Some h) f = ap (λ (k : ℕ). Some (with_kids k h)) (f h refl)

-- what is held, from what is held but for the count of children
pub whole : (c : Resident) (q : Name) (y : Option Held) → IsSoundCache c → bare c q ≡ option_map (with_kids 0) y → held_node c q ≡ option_map (with_kids (children c q)) y
whole c q y sound is = with-own-kids (children c q) (held_node c q) (sound.kids q) ∙ ap (option_map (with_kids (children c q))) is ∙ kids-again (children c q) y

pub bare-none : (c : Resident) (q : Name) → bare c q ≡ None → held_node c q ≡ None
bare-none c q is = by (held_node c q) is
  where
    by : (o : Option Held) → option_map (with_kids 0) o ≡ None → o ≡ None
    by None e = refl
    by (Some h) e = absurd (true≢false (ap (λ (x : Option Held). is_some x) e))
