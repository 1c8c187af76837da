-- What a contract sees of the index of links: how many lead to each entry, and the sum of the ids of the entries that have them.
use Rattle.std.specs.Prelude.{◌≡◌, ◌==◌, ◌≤◌, ◌<◌, ◌%◌, ◌^◌, ℕ, Bool, true, false, List, Option, Some, None}
use Rattle.std.specs.Map.{lookup}
use Rattle.iris_name.specs.declared.name.FileId.{FileId}
use Rattle.iris_links.specs.declared.linked.Linked.{Linked}
use Rattle.iris_links.specs.declared.linked.Holders.{Holders}
use Rattle.iris_links.specs.declared.linked.Holders.TheVariants.{Unknown, Nobody, One, More}

-- whether two ids are one
abbrev pub same_id : FileId → FileId → Bool
same_id a b = a.0 == b.0

-- the entries that links lead to, each once and in an order that is left open; whether a link may be missing; and for how many entries
-- more there is memory
pub record LinkIndex : Type 0 where
  pub linked : List (FileId × Linked)
  pub partial : Bool
  pub room : ℕ

-- two indexes count the same, and are as whole
abbrev pub CountsAlike : LinkIndex → LinkIndex → Type 0
CountsAlike l m = (m.linked ≡ l.linked) × (m.partial ≡ l.partial)

-- what is counted for an entry
abbrev pub linked_at : LinkIndex → FileId → Option Linked
linked_at l id = lookup (same_id id) l.linked

abbrev pub count_in : Option Linked → ℕ
count_in None = 0
count_in (Some linked) = linked.count

-- how many links lead to an entry
abbrev pub linked_count : LinkIndex → FileId → ℕ
linked_count l id = count_in (linked_at l id)

abbrev pub sum_in : Option Linked → ℕ
sum_in None = 0
sum_in (Some linked) = linked.sum

-- the sum of the ids of the entries that have these links, modulo 2^64
abbrev pub linked_sum : LinkIndex → FileId → ℕ
linked_sum l id = sum_in (linked_at l id)

-- two sums are one, modulo 2^64
abbrev pub IsSameSum : ℕ → ℕ → Type 0
IsSameSum a b = a % 2 ^ 64 ≡ b % 2 ^ 64

-- which entries have a link to an entry, as far as is known
abbrev pub AreHolders : LinkIndex → FileId → Holders → Type 0
AreHolders l id Unknown = l.partial ≡ true
AreHolders l id Nobody = (l.partial ≡ false) × (linked_count l id ≡ 0)
AreHolders l id (One holder) = (l.partial ≡ false) × (linked_count l id ≡ 1) × (holder.0 ≡ linked_sum l id) × (holder.0 < 2 ^ 64)
AreHolders l id More = (l.partial ≡ false) × (2 ≤ linked_count l id)

-- a link to an entry is counted, and where it is the only one, it is this holder's
abbrev pub IsLinkedFrom : LinkIndex → FileId → FileId → Type 0
IsLinkedFrom l id holder = (1 ≤ linked_count l id) × (linked_count l id ≡ 1 → linked_sum l id ≡ holder.0)
