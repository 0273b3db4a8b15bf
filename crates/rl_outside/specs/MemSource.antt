-- A source in memory.
use Rattle.std.specs.Prelude.{ℕ, ◌==◌, List, ◌++◌, length, take, drop, min, if◌then◌else◌}
use Rattle.rl_outside.specs.declared.source.Took.{Took}
use Rattle.rl_outside.specs.declared.source.Took.TheVariants.{Bytes, End, Failed}
use Rattle.rl_outside.specs.Counts.{one_more, one_call, is_listed}

-- the bytes that are left, the most that one read gives, the numbers of the calls that fail,
-- how many calls there were, how many of them failed, and how many found nothing left
pub record Feed : Type 0 where
  pub left : List ℕ
  pub piece : ℕ
  pub fail : List ℕ
  pub calls : ℕ
  pub faults : ℕ
  pub ends : ℕ

-- what a read of some bytes left answers, that does not fail
abbrev pub taken : List ℕ → ℕ → ℕ → Took
taken left piece room = if length left == 0 then End else Bytes (min (min piece room) (length left))

-- what the next read answers, into a buffer of some length
abbrev pub answer : Feed → ℕ → Took
answer feed room = if is_listed (one_call feed.calls) feed.fail then Failed else taken feed.left feed.piece room

-- the bytes that are left after a read that answered so
abbrev pub rest : List ℕ → Took → List ℕ
rest left (Bytes count) = drop count left
rest left _ = left

-- what stands after a read that answered so
abbrev pub after_read : Feed → Took → Feed
after_read feed (Bytes count) = record feed { left = drop count feed.left; calls = one_call feed.calls }
after_read feed End = record feed { calls = one_call feed.calls; ends = one_more feed.ends }
after_read feed Failed = record feed { calls = one_call feed.calls; faults = one_more feed.faults }

-- the buffer after a read that answered so
abbrev pub filled : List ℕ → Took → List ℕ → List ℕ
filled left (Bytes count) into = take count left ++ drop count into
filled left _ into = into
