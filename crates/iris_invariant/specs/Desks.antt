-- The desks by look-up, what each of their calls does, and the view that cache and desks make together.
use Rattle.std.specs.Prelude.{ℕ, ◌≡◌, ◌==◌, ◌^◌, Bool, true, false, not, ◌&&◌, Option, Some, None, option_map, if◌then◌else◌, bit_and}
use Rattle.iris_name.specs.declared.name.Name.{Name}
use Rattle.iris_name.specs.declared.request.Request.{Request}
use Rattle.iris_name.specs.Names.{same_name}
use Rattle.iris_cache.specs.declared.held.Held.{Held}
use Rattle.iris_invariant.specs.Agrees.{Out, View}
use Rattle.iris_invariant.specs.Cells.{cell_of}
use Rattle.iris_invariant.specs.Events.{touched}

-- what is out for a name at any desk, with that desk's number and whether it is touched; what is kept at a desk, the request
-- asked there, and the doomed names
pub record Desks : Type 0 where
  pub out : Name → Option Out
  pub kept : ℕ → Name → Bool
  pub asked : ℕ → Option Request
  pub doomed : Name → Bool

pub record BeginsAtDesk (n : Name) (o : Out) (d d' : Desks) : Type 0 where
  pub out : (q : Name) → d'.out q ≡ (if same_name n q then Some o else d.out q)
  pub kept : (w : ℕ) (q : Name) → d'.kept w q ≡ d.kept w q
  pub asked : (w : ℕ) → d'.asked w ≡ d.asked w
  pub doomed : (q : Name) → d'.doomed q ≡ d.doomed q

-- with `keep` the name is kept there
pub record Ends (n : Name) (who : ℕ) (keep : Bool) (d d' : Desks) : Type 0 where
  pub out : (q : Name) → d'.out q ≡ (if same_name n q then None else d.out q)
  pub kept : (w : ℕ) (q : Name) → d'.kept w q ≡ (if keep && ((w == who) && same_name n q) then true else d.kept w q)
  pub asked : (w : ℕ) → d'.asked w ≡ d.asked w
  pub doomed : (q : Name) → d'.doomed q ≡ d.doomed q

pub record Touches (n : Name) (d d' : Desks) : Type 0 where
  pub out : (q : Name) → d'.out q ≡ (if same_name n q then option_map touched (d.out q) else d.out q)
  pub kept : (w : ℕ) (q : Name) → d'.kept w q ≡ d.kept w q
  pub asked : (w : ℕ) → d'.asked w ≡ d.asked w
  pub doomed : (q : Name) → d'.doomed q ≡ d.doomed q

pub record Dooms (n : Name) (now : Bool) (d d' : Desks) : Type 0 where
  pub out : (q : Name) → d'.out q ≡ d.out q
  pub kept : (w : ℕ) (q : Name) → d'.kept w q ≡ d.kept w q
  pub asked : (w : ℕ) → d'.asked w ≡ d.asked w
  pub doomed : (q : Name) → d'.doomed q ≡ (if same_name n q then now else d.doomed q)

pub record EntersDesk (who : ℕ) (d d' : Desks) : Type 0 where
  pub out : (q : Name) → d'.out q ≡ d.out q
  pub kept : (w : ℕ) (q : Name) → d'.kept w q ≡ (if w == who then false else d.kept w q)
  pub asked : (w : ℕ) → d'.asked w ≡ (if w == who then None else d.asked w)
  pub doomed : (q : Name) → d'.doomed q ≡ d.doomed q

abbrev pub pinned_in : ℕ → Option Held → Bool
pinned_in w None = false
pinned_in w (Some h) = not (bit_and h.pins (2 ^ w) == 0)

abbrev pub view_of : (Name → Option Held) → Desks → View
view_of held d = record { cell = λ n. cell_of (held n) (d.doomed n) (d.out n); asked = d.asked; kept = d.kept; pinned = λ w n. pinned_in w (held n) }
