-- The queue of the frames that await acknowledgement (RTN7).
use Rattle.std.specs.Prelude.{ℕ, ◌+◌, ◌≡◌, ◌≤◌, Bool, not, ◌&&◌, ◌||◌, ◌==◌, nat_le, nat_lt, List, [], ◌∷◌, ◌++◌, length, map, filter, Some}
use Rattle.std.specs.List.{AllByRecursion}
use Rattle.rl_numbers.specs.declared.limits.TheConstants.{MAX_MESSAGE_SERIAL, MAX_PENDING}
use Rattle.rl_types.specs.declared.frames.Frame.{Frame}
use Rattle.rl_ackq.specs.declared.pending.Pending.{Pending}
use Rattle.rl_ackq.specs.Frames.{serial_in, with_serial}

pub record Queue : Type 0 where
  pub pending : List Pending  -- in the order in which they were pushed
  pub next : ℕ

-- STEPS

abbrev pub new_queue : Queue
new_queue = record { pending = []; next = 0 }

-- as many frames are pending as may be, or there is no serial left
abbrev pub is_full : Queue → Bool
is_full queue = (length queue.pending == MAX_PENDING) || (queue.next == MAX_MESSAGE_SERIAL)

-- a frame that is pending with this serial, which its head has too
abbrev pub pending_as : ℕ → Frame → Pending
pending_as serial frame = record { serial = serial; frame = with_serial serial frame }

abbrev pub pushed : Frame → Queue → Queue
pushed frame queue = record { pending = queue.pending ++ pending_as queue.next frame ∷ []; next = queue.next + 1 }

-- count serials from this one on are settled
abbrev pub is_covered : ℕ → ℕ → Pending → Bool
is_covered serial count one = nat_le serial one.serial && nat_lt one.serial (serial + count)

abbrev pub settled : ℕ → ℕ → Queue → Queue
settled serial count queue = record queue { pending = filter (λ (one : Pending). not (is_covered serial count one)) queue.pending }

abbrev pub serials : List Pending → List ℕ
serials = map (λ (one : Pending). one.serial)

abbrev pub settled_serials : ℕ → ℕ → Queue → List ℕ
settled_serials serial count queue = serials (filter (is_covered serial count) queue.pending)

abbrev pub frames : List Pending → List Frame
frames = map (λ (one : Pending). one.frame)

-- the same frames with the serials from this one on
abbrev pub numbered_from : ℕ → List Pending → List Pending
numbered_from serial [] = []
numbered_from serial (one ∷ rest) = pending_as serial one.frame ∷ numbered_from (serial + 1) rest

abbrev pub renumbered : Queue → Queue
renumbered queue = record { pending = numbered_from 0 queue.pending; next = length queue.pending }

abbrev pub started_at : ℕ → Queue
started_at serial = record { pending = []; next = serial }

abbrev pub is_below : ℕ → Pending → Bool
is_below serial one = nat_lt one.serial serial

-- without the frames from this serial on, which is the next one again
abbrev pub cut_at : ℕ → Queue → Queue
cut_at serial queue = record { pending = filter (is_below serial) queue.pending; next = serial }

-- WHAT HOLDS AT EVERY MOMENT

-- the serials rise, from low on, and are below next
abbrev pub RiseFrom : ℕ → List Pending → ℕ → Type 0
RiseFrom low [] next = low ≤ next
RiseFrom low (one ∷ rest) next = (low ≤ one.serial) × RiseFrom (one.serial + 1) rest next

-- each is a frame that the service acknowledges and has its serial in its head
abbrev pub AreTold : List Pending → Type 0
AreTold = AllByRecursion (λ (one : Pending). serial_in one.frame ≡ Some one.serial)

pub record IsQueue (pending : List Pending) (next : ℕ) : Type 0 where
  pub few : length pending ≤ MAX_PENDING
  pub small : next ≤ MAX_MESSAGE_SERIAL
  pub rise : RiseFrom 0 pending next
  pub told : AreTold pending
