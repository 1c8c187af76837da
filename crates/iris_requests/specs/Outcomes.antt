-- What a change of rows leaves.
use Rattle.std.specs.Prelude.{[], Option, Some, None}
use Rattle.iris_cache.specs.Drafted.{Drafted}
use Rattle.iris_name.specs.declared.request.PlainError.{PlainError}
use Rattle.iris_name.specs.declared.request.Reply.TheVariants.{Done, Plain}
use Rattle.iris_requests.specs.declared.planned.Counters.{Counters}
use Rattle.iris_requests.specs.declared.planned.Planned.{Planned}

-- the draft with the counters after it, or by a check that applies nothing, with those before
abbrev pub checked_plan : Option PlainError → Drafted → Counters → Counters → Planned
checked_plan None draft before after = record { reply = Done; draft = draft; pages = record { changes = [] }; counters = after }
checked_plan (Some error) draft before after = record { reply = Plain error; draft = record { changes = [] }; pages = record { changes = [] }; counters = before }
