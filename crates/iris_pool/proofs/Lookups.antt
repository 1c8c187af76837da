-- What look-ups answer, as the code reads them.
use Rattle.std.proofs.Common.{◌≡◌, ℕ, Bool, true, false, List, Option, Some, None, refl, ap, sym, ◌∙◌, subst, true≢false, is_some, Bor}
use Rattle.std.specs.Option.{option_copied}
use Rattle.iris_blocks.specs.Changes.{lent}
use Rattle.iris_blocks.specs.Paged.{Paged, held_page, IsBlock, ArePagesSound}
use Rattle.iris_cache.specs.declared.held.Held.{Held}
use Rattle.iris_cache.specs.Resident.{Resident, IsSoundCache, held_node}
use Rattle.iris_name.specs.declared.name.Name.{Name}
use Rattle.iris_pool.proofs.LandedDrafts.{name_of_node, none_by}

pub copied_some : {A : Type 0} (o : Option (Bor A)) → is_some (option_copied o) ≡ is_some o
copied_some None = refl
copied_some (Some x) = refl

-- what was found is held, and what wasn't isn't
pub found_is : {A : Type 0} (o : Option (Bor A)) (h : Option A) (b : Bool) → b ≡ is_some o → option_copied o ≡ h → b ≡ is_some h
found_is o h b test at = test ∙ sym (copied_some o) ∙ ap (λ x. is_some x) at

pub none_is : {A : Type 0} (h : Option A) → is_some h ≡ false → h ≡ None
none_is None e = refl
none_is (Some x) e = absurd (true≢false e)

-- a block's name has no node, and a node's name no page
pub no_node : (c : Resident) (n : Name) → IsSoundCache c → IsBlock n → held_node c n ≡ None
no_node c n sound block = none_by (held_node c n) (λ h at. name_of_node h.node (subst IsBlock (sym (sound.own n h at)) block))

pub no_page : (c : Resident) (b : Paged) (n : Name) → IsSoundCache c → ArePagesSound b → is_some (held_node c n) ≡ true → held_page b n ≡ None
no_page c b n sound pages here = none_by (held_page b n) (λ p at. true≢false (sym here ∙ ap (λ (o : Option Held). is_some o) (no_node c n sound (pages.blocks n p at))))

pub lent_some : (o : Option (ℕ × Bor (List ℕ))) → is_some (lent o) ≡ is_some o
lent_some None = refl
lent_some (Some x) = refl
