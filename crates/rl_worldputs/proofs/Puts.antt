-- A serial of a connection is put on one channel alone: all actions, and the law.
use Rattle.std.proofs.Common.{◌≡◌, ℕ, List, [], refl, subst}
use Rattle.std.specs.Prelude.{Option, Some, None, slice_get}
use Rattle.rl_ids.specs.Forms.{conn_text}
use Rattle.rl_events.specs.declared.channel.ChannelEvent.{ChannelEvent}
use Rattle.rl_events.specs.declared.channel.ChannelEvent.TheVariants.{Put}
use Rattle.rl_connbook.specs.Laws.{SomeOf}
use Rattle.rl_connbook.proofs.Each.{all_some}
use Rattle.rl_directory.specs.Directory.{number_of}
use Rattle.rl_worldmodel.specs.World.{World, empty_world, client_at, latest, names, past_of}
use Rattle.rl_worldmodel.specs.Actions.{Action, Declares, Opens, Cuts, Recovers, Obeys, Gets, LooksAtTime, Steps, Pages, Polls, Passes, Expires, Reaps, Ages, Asks, Feeds, does}
use Rattle.rl_worldtold.specs.Runs.{HoldsOfRuns}
use Rattle.rl_worldtold.specs.Truth.{IsPutBy, IsTrueWorld, names_of}
use Rattle.rl_worldtold.specs.Tell.{IsTelling}
use Rattle.rl_worldtold.proofs.Shape.{all_at}
use Rattle.rl_worldtold.proofs.Runs.{runs_hold, runs_so}
use Rattle.rl_worldtold.proofs.Answers.{keeps_true, begins_true}
use Rattle.rl_worldtold.proofs.Telling.{keeps_tells, begins_tells}
use Rattle.rl_worldputs.specs.Puts.{IsPutOn, PutsEachOnOne, SerialsArePutOnOneChannel}
use Rattle.rl_worldputs.specs.Uses.{Use, IsUse, HasNumber, IsPutUsing, IsChannelUsing, IsUsing, HasUses}
use Rattle.rl_worldputs.proofs.Clients.{cuts_using, looks_using}
use Rattle.rl_worldputs.proofs.Opening.{got_on_using, opens_using, obeys_using, declared_using}
use Rattle.rl_worldputs.proofs.Recovery.{from_using}
use Rattle.rl_worldputs.proofs.Naming.{name_at, number_once}
use Rattle.rl_worldputs.proofs.Stepping.{steps_using, pages_using, polls_using, passes_using, expires_using, reaped_using, aged_using, names_using, fed_using}

-- ALL ACTIONS

pub keeps_uses : (action : Action) (world : World) → IsTrueWorld world → IsTelling world → HasUses world → HasUses (does action world)
keeps_uses (Declares name) world true_ telling h = declared_using (client_at name world) name world h
keeps_uses (Opens name) world true_ telling h = opens_using name world h
keeps_uses (Cuts name) world true_ telling h = record { uses = h.uses; owner = h.owner; fits = cuts_using h.uses h.owner name world h.fits }
keeps_uses (Recovers name other) world true_ telling h = from_using name other (client_at name world) (client_at other world) world refl telling h
keeps_uses (Obeys name command) world true_ telling h = obeys_using name command world true_ h
keeps_uses (Gets name) world true_ telling h = got_on_using name (latest name world) world refl true_ h
keeps_uses (LooksAtTime name) world true_ telling h = looks_using name world true_ h
keeps_uses (Steps k) world true_ telling h = steps_using world k true_ telling h
keeps_uses (Pages k name) world true_ telling h = pages_using world k name telling h
keeps_uses (Polls k name) world true_ telling h = polls_using world k name telling h
keeps_uses (Passes span) world true_ telling h = passes_using world span h
keeps_uses Expires world true_ telling h = expires_using world h
keeps_uses Reaps world true_ telling h = reaped_using world world.queue h
keeps_uses (Ages name) world true_ telling h = aged_using world (number_of name (names world)) h
keeps_uses (Asks name) world true_ telling h = names_using world name h
keeps_uses (Feeds name body) world true_ telling h = fed_using world (number_of name (names world)) body h

begins_uses : HasUses empty_world
begins_uses = record {
  uses = [];
  owner = λ id. None;
  fits = record {
    single = λ id serial one two used wrong. absurd wrong;
    givers = λ id serial one two used wrong. absurd wrong;
    given = λ id serial channel wrong. absurd wrong;
    owned = λ id name wrong. absurd (cc);
    fed = λ serial channel wrong. absurd wrong;
    nobody = λ name wrong. absurd (cc);
    apart = tt;
    puts = tt;
    links = tt;
    each = tt;
  };
}

-- a world with all that is kept
pub record IsKept (world : World) : Type 0 where
  pub true_ : IsTrueWorld world
  pub telling : IsTelling world
  pub uses : HasUses world

pub always_kept : HoldsOfRuns IsKept
always_kept =
    runs_hold IsKept (λ action world h. record { true_ = keeps_true action world h.true_; telling = keeps_tells action world h.true_ h.telling; uses = keeps_uses action world h.true_ h.telling h.uses })
    (record { true_ = begins_true; telling = begins_tells; uses = begins_uses })

-- THE LAW

put_is_use : (uses : List Use) (name : List ℕ) (conn serial : ℕ) (event : ChannelEvent) → IsPutUsing uses name event → IsPutBy conn serial event → IsUse uses (conn_text conn) serial name
put_is_use uses name conn serial (Put c s body now) is by = subst (λ n. IsUse uses (conn_text conn) n name) by.1 (subst (λ n. IsUse uses (conn_text n) s name) by.0 is.0)
put_is_use uses name conn serial event is by = absurd by

-- a channel with a Put has a name, on which the serial is used
pub use_on : (uses : List Use) (owner : List ℕ → Option (List ℕ)) (world : World) (conn serial number : ℕ) → IsUsing uses owner world → IsPutOn world conn serial number → (name : List ℕ) × HasNumber (names_of world.channels) name number × IsUse uses (conn_text conn) serial name
use_on uses owner world conn serial number h put = by_channel (slice_get world.channels number) refl put
  where
    by_channel : (o : Option (List ℕ × List ChannelEvent)) → slice_get world.channels number ≡ o → SomeOf (IsPutBy conn serial) (past_of o) → (name : List ℕ) × HasNumber (names_of world.channels) name number × IsUse uses (conn_text conn) serial name
    by_channel None found put = absurd put
    by_channel (Some c) found put = (
      c.0,
      name_at number world.channels c found,
      all_some (IsPutUsing uses c.0) (IsPutBy conn serial) (IsUse uses (conn_text conn) serial c.0) c.1 (put_is_use uses c.0 conn serial) (all_at (IsChannelUsing uses) number c world.channels found h.puts) put,
    )

one_channel : (world : World) → HasUses world → PutsEachOnOne world
one_channel world h conn serial first second one two =
    let a = use_on h.uses h.owner world conn serial first h.fits one in
    let b = use_on h.uses h.owner world conn serial second h.fits two in
    let same : a.0 ≡ b.0 = h.fits.single (conn_text conn) serial a.0 b.0 a.2 b.2 in
    number_once b.0 (names_of world.channels) first second h.fits.apart (subst (λ (x : List ℕ). HasNumber (names_of world.channels) x first) same a.1) b.1

pub serials_are_put_on_one_channel : SerialsArePutOnOneChannel
serials_are_put_on_one_channel = runs_so IsKept PutsEachOnOne (λ world h. one_channel world h.uses) always_kept
