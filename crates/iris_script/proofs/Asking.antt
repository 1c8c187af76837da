-- What the words of a request are, by their number.
use Rattle.std.proofs.Common.{◌≡◌, ℕ, List, [], ◌∷◌, refl, sym, ap, subst, inl, inr}
use Rattle.std.specs.Prelude.{codes}
use Rattle.iris_name.specs.declared.request.Request.{Request}
use Rattle.iris_name.specs.declared.request.Request.TheVariants as request
use Rattle.iris_script.specs.Paths.{IsPathWord}
use Rattle.iris_script.specs.Words.{IsBytesWord, IsNumber}
use Rattle.iris_script.specs.Script.{AskNothing, Asks}

-- a word alone asks this
pub data AsksBare (command : List ℕ) (asked : Request) : Type 0 where
  Syncs : command ≡ codes "sync" → asked ≡ request.Sync → AsksBare command asked
  Roots : command ≡ codes "root" → asked ≡ request.Root → AsksBare command asked
  Reclaims : command ≡ codes "reclaim" → asked ≡ request.Reclaim → AsksBare command asked

-- a word and a path ask this
pub data AsksOfPath (command path : List ℕ) (asked : Request) : Type 0 where
  MakesDir : command ≡ codes "mkdir" → asked ≡ request.Mkdir path → AsksOfPath command path asked
  Creates : command ≡ codes "create" → asked ≡ request.Create path → AsksOfPath command path asked
  Stats : command ≡ codes "stat" → asked ≡ request.Stat path → AsksOfPath command path asked
  ListsAll : command ≡ codes "list" → asked ≡ request.List path [] → AsksOfPath command path asked
  Removes : command ≡ codes "remove" → asked ≡ request.Remove path → AsksOfPath command path asked

-- a word, a path and one more ask this
pub data AsksOfTwo (command p q : List ℕ) (asked : Request) : Type 0 where
  Resizes : command ≡ codes "resize" → (path : List ℕ) (len : ℕ) → IsPathWord p path → IsNumber q len → asked ≡ request.Resize path len
      → AsksOfTwo command p q asked
  ListsAfter : command ≡ codes "list" → (path after : List ℕ) → IsPathWord p path → IsPathWord q after → asked ≡ request.List path after
      → AsksOfTwo command p q asked
  Renames : command ≡ codes "rename" → (from to : List ℕ) → IsPathWord p from → IsPathWord q to → asked ≡ request.Rename from to
      → AsksOfTwo command p q asked

-- a word and bytes or a number after a path and an offset ask this
pub data AsksAt (command d path : List ℕ) (offset : ℕ) (asked : Request) : Type 0 where
  Writes : command ≡ codes "write" → (bytes : List ℕ) → IsBytesWord d bytes → asked ≡ request.Write path offset bytes → AsksAt command d path offset asked
  Reads : command ≡ codes "read" → (len : ℕ) → IsNumber d len → asked ≡ request.Read path offset len → AsksAt command d path offset asked

pub Asks-bare : (command : List ℕ) (asked : Request) → Asks (command ∷ []) asked → AsksBare command asked
Asks-bare command (request.Mkdir path) h = cc h.1
Asks-bare command (request.Create path) h = cc h.1
Asks-bare command (request.Write path offset bytes) h = cc h.3
Asks-bare command (request.Read path offset len) h = cc h.3
Asks-bare command (request.Resize path len) h = cc h.2
Asks-bare command (request.Stat path) h = cc h.1
Asks-bare command (request.List path after) (inl h) = cc h.1
Asks-bare command (request.List path after) (inr h) = cc h.2
Asks-bare command (request.Rename from to) h = cc h.2
Asks-bare command (request.Remove path) h = cc h.1
Asks-bare command request.Sync h = Syncs (cc h) refl
Asks-bare command request.Root h = Roots (cc h) refl
Asks-bare command request.Reclaim h = Reclaims (cc h) refl
Asks-bare command (request.Probe at) h = absurd h

at_path : (command w p path : List ℕ) (asked : Request) → w ≡ p → IsPathWord p path → AsksOfPath command path asked
    → (q : List ℕ) × IsPathWord w q × AsksOfPath command q asked
at_path command w p path asked e h a =
    let P : List ℕ → Type 0 = λ v. IsPathWord v path in (path, subst P (sym e) h, a)

pub Asks-of_path : (command w : List ℕ) (asked : Request) → Asks (command ∷ w ∷ []) asked → (path : List ℕ) × IsPathWord w path × AsksOfPath command path asked
Asks-of_path command w (request.Mkdir path) h = at_path command w h.0 path _ (cc h.1) h.2 (MakesDir (cc h.1) refl)
Asks-of_path command w (request.Create path) h = at_path command w h.0 path _ (cc h.1) h.2 (Creates (cc h.1) refl)
Asks-of_path command w (request.Write path offset bytes) h = cc h.3
Asks-of_path command w (request.Read path offset len) h = cc h.3
Asks-of_path command w (request.Resize path len) h = cc h.2
Asks-of_path command w (request.Stat path) h = at_path command w h.0 path _ (cc h.1) h.2 (Stats (cc h.1) refl)
Asks-of_path command w (request.List path after) (inl h) = at_path command w h.0 path _ (cc h.1) h.2 (ListsAll (cc h.1) (ap (request.List path) h.3))
Asks-of_path command w (request.List path after) (inr h) = cc h.2
Asks-of_path command w (request.Rename from to) h = cc h.2
Asks-of_path command w (request.Remove path) h = at_path command w h.0 path _ (cc h.1) h.2 (Removes (cc h.1) refl)
Asks-of_path command w request.Sync h = cc h
Asks-of_path command w request.Root h = cc h
Asks-of_path command w request.Reclaim h = cc h
Asks-of_path command w (request.Probe at) h = absurd h

along : (P : List ℕ → Type 0) (v w : List ℕ) → v ≡ w → P w → P v
along P v w e h = subst P (sym e) h

pub Asks-of_two : (command p q : List ℕ) (asked : Request) → Asks (command ∷ p ∷ q ∷ []) asked → AsksOfTwo command p q asked
Asks-of_two command p q (request.Mkdir path) h = cc h.1
Asks-of_two command p q (request.Create path) h = cc h.1
Asks-of_two command p q (request.Write path offset bytes) h = cc h.3
Asks-of_two command p q (request.Read path offset len) h = cc h.3
Asks-of_two command p q (request.Resize path len) h = Resizes (cc h.2) path len (along (λ v. IsPathWord v path) p h.0 (cc h.2) h.3) (along (λ v. IsNumber v len) q h.1 (cc h.2) h.4) refl
Asks-of_two command p q (request.Stat path) h = cc h.1
Asks-of_two command p q (request.List path after) (inl h) = cc h.1
Asks-of_two command p q (request.List path after) (inr h) = ListsAfter (cc h.2) path after (along (λ v. IsPathWord v path) p h.0 (cc h.2) h.3) (along (λ v. IsPathWord v after) q h.1 (cc h.2) h.4) refl
Asks-of_two command p q (request.Rename from to) h = Renames (cc h.2) from to (along (λ v. IsPathWord v from) p h.0 (cc h.2) h.3) (along (λ v. IsPathWord v to) q h.1 (cc h.2) h.4) refl
Asks-of_two command p q (request.Remove path) h = cc h.1
Asks-of_two command p q request.Sync h = cc h
Asks-of_two command p q request.Root h = cc h
Asks-of_two command p q request.Reclaim h = cc h
Asks-of_two command p q (request.Probe at) h = absurd h

pub Asks-at : (command p n d : List ℕ) (asked : Request) → Asks (command ∷ p ∷ n ∷ d ∷ []) asked →
    (path : List ℕ) × (offset : ℕ) × IsPathWord p path × IsNumber n offset × AsksAt command d path offset asked
Asks-at command p n d (request.Mkdir path) h = cc h.1
Asks-at command p n d (request.Create path) h = cc h.1
Asks-at command p n d (request.Write path offset bytes) h = (path, offset, along (λ v. IsPathWord v path) p h.0 (cc h.3) h.4, along (λ v. IsNumber v offset) n h.1 (cc h.3) h.5, Writes (cc h.3) bytes (along (λ v. IsBytesWord v bytes) d h.2 (cc h.3) h.6) refl)
Asks-at command p n d (request.Read path offset len) h = (path, offset, along (λ v. IsPathWord v path) p h.0 (cc h.3) h.4, along (λ v. IsNumber v offset) n h.1 (cc h.3) h.5, Reads (cc h.3) len (along (λ v. IsNumber v len) d h.2 (cc h.3) h.6) refl)
Asks-at command p n d (request.Resize path len) h = cc h.2
Asks-at command p n d (request.Stat path) h = cc h.1
Asks-at command p n d (request.List path after) (inl h) = cc h.1
Asks-at command p n d (request.List path after) (inr h) = cc h.2
Asks-at command p n d (request.Rename from to) h = cc h.2
Asks-at command p n d (request.Remove path) h = cc h.1
Asks-at command p n d request.Sync h = cc h
Asks-at command p n d request.Root h = cc h
Asks-at command p n d request.Reclaim h = cc h
Asks-at command p n d (request.Probe at) h = absurd h

-- a write without bytes
pub AskNothing-write : (command p n d : List ℕ) → command ≡ codes "write" → ((bytes : List ℕ) → IsBytesWord d bytes → ⊥)
    → AskNothing (command ∷ p ∷ n ∷ d ∷ [])
AskNothing-write command p n d is none asked h =
    elim (Asks-at command p n d asked h).4 [ Writes e bytes b k ↦ none bytes b | Reads e len b k ↦ cc (e, is) ]
