-- Which requests are planned, and the table after a reply.
use Rattle.std.proofs.Common.{◌≡◌, ◌<◌, ℕ, List, [], ◌∷◌, refl, arith, Option, Some, true, false}
use Rattle.std.specs.Prelude.{codes, ◌+◌}
use Rattle.iris_name.specs.declared.name.Name.TheVariants.{Entry}
use Rattle.iris_name.specs.declared.request.Cause.TheVariants.{BadAnswer}
use Rattle.iris_name.specs.declared.request.PlainError.TheVariants.{Full}
use Rattle.iris_name.specs.declared.request.Reply.TheVariants.{Done, Plain, Refused}
use Rattle.iris_name.specs.declared.request.Request.{Request}
use Rattle.iris_name.specs.declared.request.Request.TheVariants.{Mkdir, Create, Read, Resize, Remove, Reclaim}
use Rattle.iris_name.specs.Paths.{names_of}
use Rattle.iris_node.specs.Unfolded.{id_of}
use Rattle.iris_requests.specs.Planned.{after_reply}
use Rattle.iris_requests.specs.Served.{IsPlannable, new_at}
use Rattle.iris_rows.specs.Rows.{empty_table}

-- ---- a request that is planned

a_read : IsPlannable (Read (codes "/a") 0 10)
a_read = tt

one_byte : IsPlannable (Resize (codes "/a") 1)
one_byte = omega arith

-- a length of 0 takes the row into the trash, as a removal does
no_byte : IsPlannable (Resize (codes "/a") 0) → ⊥
no_byte h = omega (arith, h)

a_removal : IsPlannable (Remove (codes "/a")) → ⊥
a_removal h = h

a_reclaim : IsPlannable Reclaim → ⊥
a_reclaim h = h

directory_made : new_at true (codes "/a") ≡ Mkdir (codes "/a")
directory_made = refl

file_made : new_at false (codes "/a") ≡ Create (codes "/a")
file_made = refl

-- ---- the table after a reply

make : Request
make = Mkdir (codes "/a")

-- a request that is taken makes its step
taken : ((after_reply empty_table make Done).next ≡ 3) × ((after_reply empty_table make Done).age ≡ 1)
unfolding make names_of
taken = (refl, refl)

-- a plain error doesn't, nor does a refusal
erred : after_reply empty_table make (Plain Full) ≡ empty_table
erred = refl

refused : after_reply empty_table make (Refused (BadAnswer (Entry (id_of 0)))) ≡ empty_table
refused = refl

-- what the table refuses changes nothing, whatever is told
not_taken : after_reply empty_table (Mkdir (codes "/")) Done ≡ empty_table
unfolding names_of
not_taken = refl
