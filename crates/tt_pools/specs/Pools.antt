-- The pools (tpool(n)). They are numbered from 1.
use Rattle.std.specs.Prelude.{ℕ, ◌+◌, Bool, false, ◌&&◌, nat_lt, nat_le, List, [], map, Option, Some, None}
use Rattle.std.specs.Prelude.{option_and_then, pos}
use Rattle.std.specs.BTreeMap.{insert_entry, is_at}
use Rattle.std.specs.Map.{lookup, remove_entry, set_value}
use Rattle.std.specs.Ordering.{nat_cmp}
use Rattle.tt_calls.specs.declared.start.Start.{Start}
use Rattle.tt_calls.specs.declared.start.Start.TheVariants.{Worker}
use Rattle.tt_ids.specs.Ids.{id, id_named}
use Rattle.tt_ids.specs.declared.id.IdKind.TheVariants as kind
use Rattle.tt_pools.specs.Jobs.{no_jobs}
use Rattle.tt_pools.specs.declared.pool.Pool.{Pool}

-- the open pools, each under its number and in order, and the number that the next one draws
pub record PoolTable : Type 0 where
  pub pools : List (ℕ × Pool)
  pub next : ℕ

abbrev pub no_pools : PoolTable
no_pools = record { pools = []; next = 1 }

abbrev pub at_number : PoolTable → ℕ → Option Pool
at_number table n = lookup (is_at (nat_cmp n)) table.pools

-- the open pool of an id
abbrev pub pool_of : PoolTable → List ℕ → Option Pool
pool_of table text = option_and_then (at_number table) (id_named kind.Pool text)

-- the table with another pool under that number; and under that id
abbrev pub with_pool_at : PoolTable → Pool → Option ℕ → PoolTable
with_pool_at table pool None = table
with_pool_at table pool (Some n) = record table { pools = set_value (is_at (nat_cmp n)) table.pools pool }

abbrev pub with_pool : PoolTable → List ℕ → Pool → PoolTable
with_pool table text pool = with_pool_at table pool (id_named kind.Pool text)

abbrev pub without_pool_at : PoolTable → Option ℕ → PoolTable
without_pool_at table None = table
without_pool_at table (Some n) = record table { pools = remove_entry (is_at (nat_cmp n)) table.pools }

abbrev pub without_pool : PoolTable → List ℕ → PoolTable
without_pool table text = without_pool_at table (id_named kind.Pool text)

-- the ids of the open pools, by number
abbrev pub pool_ids : PoolTable → List (List ℕ)
pool_ids table = map (λ entry. id kind.Pool entry.0) table.pools

-- ---- a new pool ----

-- the counts that a command asks for: at most 900 workers, and no more at least than at most
abbrev pub most_workers : ℕ
most_workers = 900

abbrev pub is_allowed : (least most : ℕ) → Bool
is_allowed least most = nat_le least most && (nat_lt 0 most && nat_le most most_workers)

abbrev pub new_pool : (most workers : ℕ) → (init exit : List ℕ) → Pool
new_pool most workers init exit = record {
  init = init;
  exit = exit;
  most = most;
  workers = workers;
  count = pos 0;
  suspended = false;
  jobs = no_jobs;
}

abbrev pub new_id : PoolTable → List ℕ
new_id table = id kind.Pool table.next

abbrev pub with_new : PoolTable → Pool → PoolTable
with_new table pool = record { pools = insert_entry nat_cmp table.pools table.next pool; next = table.next + 1 }

-- what the workers of a pool begin with
abbrev pub worker_of : (text : List ℕ) → Pool → Start
worker_of text pool = Worker text pool.init pool.exit
