-- Channels grow: numbers stay, and logs only get longer.
use Rattle.std.proofs.Common.{◌≡◌, ℕ, zero, suc, ◌≤◌, Bool, true, false, List, [], ◌∷◌, ◌++◌, length, refl, ◌∙◌, ap, subst, arith}
use Rattle.std.specs.Prelude.{Option, Some, None, bytes_eq, if◌then◌else◌}
use Rattle.std.proofs.lemmas.List.{map-append}
use Rattle.rl_events.specs.declared.channel.ChannelEvent.{ChannelEvent}
use Rattle.rl_events.specs.declared.calls.Call.{Call}
use Rattle.rl_events.specs.declared.calls.Call.TheVariants as calls
use Rattle.rl_events.specs.declared.calls.DirEvent.TheVariants.{Ask, Names}
use Rattle.rl_events.specs.declared.calls.DirReply.TheVariants as dirs
use Rattle.rl_events.specs.declared.calls.Reply.TheVariants as replies
use Rattle.rl_directory.specs.Directory.{number_of, is_full, asked_by}
use Rattle.rl_directory.proofs.Keeping.{or_else, here, behind}
use Rattle.rl_actormodel.specs.Replies.{numbering, Numbering, Has}
use Rattle.rl_worldmodel.specs.World.{World, the_site, changed_at, names}
use Rattle.rl_worldmodel.specs.Calls.{event_onto, named_by, with_name, called}
use Rattle.rl_worldtold.specs.Truth.{Channels, names_of}
use Rattle.rl_worldtold.proofs.Shape.{map_changed, self_bytes}
use Rattle.rl_worldsessions.specs.Serving.{HasNumber, last_place}
use Rattle.rl_worldsessions.proofs.Logs.{head_grows}

-- each number stays, and no log gets shorter
pub record Grown (before after : Channels) : Type 0 where
  pub has : (name : List ℕ) (number : ℕ) → HasNumber before name number → HasNumber after name number
  pub low : (number : ℕ) → last_place number before ≤ last_place number after

pub grown_same : (channels : Channels) → Grown channels channels
grown_same channels = record { has = λ name number is. is; low = λ number. omega arith }

-- A CHANNEL TAKES AN EVENT

low_takes : (n number : ℕ) (event : ChannelEvent) (channels : Channels) → last_place n channels ≤ last_place n (changed_at number (event_onto event) channels)
low_takes n number event [] = omega arith
low_takes zero zero event (c ∷ channels) = head_grows the_site event c.1
low_takes (suc n) zero event (c ∷ channels) = omega arith
low_takes zero (suc number) event (c ∷ channels) = omega arith
low_takes (suc n) (suc number) event (c ∷ channels) = low_takes n number event channels

pub grown_takes : (number : ℕ) (event : ChannelEvent) (channels : Channels) → Grown channels (changed_at number (event_onto event) channels)
grown_takes number event channels = record {
  has = λ name n is. ap (number_of name) (map_changed (λ (c : List ℕ × List ChannelEvent). c.0) number (event_onto event) (λ c. refl) channels) ∙ is;
  low = λ n. low_takes n number event channels;
}

-- THE DIRECTORY GIVES A NUMBER

names_more : (name : List ℕ) (channels : Channels) → names_of (channels ++ (name, []) ∷ []) ≡ names_of channels ++ name ∷ []
names_more name channels = map-append (λ (c : List ℕ × List ChannelEvent). c.0) channels ((name, []) ∷ [])

number_stays : (name other : List ℕ) (number : ℕ) (channels : Channels) → HasNumber channels name number → HasNumber (channels ++ (other, []) ∷ []) name number
number_stays name other number channels is =
    ap (number_of name) (names_more other channels)
    ∙ behind name other (names_of channels)
    ∙ ap (λ (found : Option ℕ). or_else found (here (bytes_eq name other) (length (names_of channels)))) is

number_new : (name : List ℕ) (channels : Channels) → number_of name (names_of channels) ≡ None → HasNumber (channels ++ (name, []) ∷ []) name (length (names_of channels))
number_new name channels none =
    ap (number_of name) (names_more name channels)
    ∙ behind name name (names_of channels)
    ∙ ap (λ (found : Option ℕ). or_else found (here (bytes_eq name name) (length (names_of channels)))) none
    ∙ ap (λ (b : Bool). here b (length (names_of channels))) (self_bytes name)

low_named : (n : ℕ) (name : List ℕ) (channels : Channels) → last_place n channels ≤ last_place n (channels ++ (name, []) ∷ [])
low_named zero name [] = omega arith
low_named (suc n) name [] = omega arith
low_named zero name (c ∷ channels) = omega arith
low_named (suc n) name (c ∷ channels) = low_named n name channels

added : (full : Bool) (name : List ℕ) (channels : Channels) → Grown channels (if full then channels else channels ++ (name, []) ∷ [])
added true name channels = grown_same channels
added false name channels = record { has = λ q n is. number_stays q name n channels is; low = λ n. low_named n name channels }

named_grows : (o : Option ℕ) (name : List ℕ) (world : World) → Grown world.channels (named_by o name world).channels
named_grows (Some number) name world = grown_same world.channels
named_grows None name world = added (is_full (names world)) name world.channels

pub grown_name : (name : List ℕ) (world : World) → Grown world.channels (with_name name world).channels
grown_name name world = named_grows (number_of name (names world)) name world

-- ANY CALL

pub grown_call : (call : Call) (world : World) → Grown world.channels (called call world).channels
grown_call (calls.Book event) world = grown_same world.channels
grown_call (calls.Dir (Ask name)) world = grown_name name world
grown_call (calls.Dir Names) world = grown_same world.channels
grown_call (calls.Chan number event) world = grown_takes number event world.channels

-- WHAT THE DIRECTORY ANSWERS

abbrev Told : Option ℕ → List (List ℕ) → Numbering
Told o list = numbering (replies.Dir (asked_by o list))

-- the number that is told is the name's from then on
pub ask_tells : (name : List ℕ) (number : ℕ) (world : World) → Told (number_of name (names world)) (names world) ≡ Has number → HasNumber (with_name name world).channels name number
ask_tells name number world told = by_number (number_of name (names world)) refl told
  where
    by_full : (full : Bool) → number_of name (names world) ≡ None → numbering (replies.Dir (if full then dirs.Full (length (names world)) else dirs.At (length (names world)))) ≡ Has number
        → HasNumber (if full then world.channels else world.channels ++ (name, []) ∷ []) name number
    by_full true none told = absurd (cc)
    by_full false none told =
        let same : length (names world) ≡ number = cc in
        subst (HasNumber (world.channels ++ (name, []) ∷ []) name) same (number_new name world.channels none)

    by_number : (o : Option ℕ) → number_of name (names world) ≡ o → Told o (names world) ≡ Has number → HasNumber (named_by o name world).channels name number
    by_number (Some n) is told = let same : n ≡ number = cc in is ∙ ap (λ (m : ℕ). Some m) same
    by_number None is told = by_full (is_full (names world)) is told
