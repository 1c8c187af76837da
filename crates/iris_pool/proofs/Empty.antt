-- Where nothing is held and nothing is out, there is a pool.
use Rattle.std.proofs.Common.{◌≡◌, Some, None, sym, ◌∙◌}
use Rattle.iris_blocks.specs.Paged.{held_page}
use Rattle.iris_cache.specs.Resident.{held_node}
use Rattle.iris_desk.specs.AtDesks.{out_of}
use Rattle.iris_name.specs.declared.name.Name.{Name}
use Rattle.iris_pool.specs.Pool.{PoolState}
use Rattle.iris_pool.specs.View.{IsPool}
use Rattle.iris_pool.proofs.Apart.{each_at, free_at}

pub empty_pool : (p : PoolState) → ((n : Name) → held_node p.nodes n ≡ None) → ((n : Name) → held_page p.pages n ≡ None) → ((n : Name) → out_of p.desks n ≡ None) → IsPool p
empty_pool p nodes pages out = each_at p (λ n. free_at p n (out n)
    (λ is h held. absurd (let x : None ≡ Some h = sym (nodes n) ∙ held in cc))
    (λ is h held. absurd (let x : None ≡ Some h = sym (pages n) ∙ held in cc)))
