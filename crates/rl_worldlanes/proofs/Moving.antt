-- An actor puts out what its session gives, and the session moves on: what a transport shows of each channel then.
use Rattle.std.proofs.Common.{◌≡◌, ℕ, Bool, false, cond, List, [], ◌∷◌, ◌++◌, map, refl, sym, ◌∙◌, ap, subst}
use Rattle.std.specs.Prelude.{Some, None, bytes_eq, flat_map, option_to_list}
use Rattle.std.specs.List.{filter}
use Rattle.std.proofs.lemmas.List.{map-append}
use Rattle.rl_types.specs.declared.frames.Frame.{Frame}
use Rattle.rl_events.specs.declared.calls.End.TheVariants.{Lagged}
use Rattle.rl_names.specs.Names.{at, with_entry}
use Rattle.rl_actormodel.specs.declared.parts.Session.{Session}
use Rattle.rl_actormodel.specs.declared.parts.Wish.{Wish}
use Rattle.rl_actormodel.specs.State as actor
use Rattle.rl_actormodel.specs.State.{puts}
use Rattle.rl_actormodel.specs.Ends.{farewell, ended_by}
use Rattle.rl_actormodel.proofs.Named.{at_with}
use Rattle.rl_lanes.specs.Lanes.{Setup, Coming, Link, frame_of}
use Rattle.rl_worldmodel.specs.World.{Transport, under_way}
use Rattle.rl_worldmodel.specs.Actors.{works}
use Rattle.rl_worldsessions.proofs.Sessions.{puts_sessions, puts_waiting, at_own}
use Rattle.rl_worldlanes.specs.Views.{Sees, concerns, coming_on, asks_of, asks_in_hand}
use Rattle.rl_worldlanes.specs.Following.{IsFront}
use Rattle.rl_worldlanes.proofs.Mute.{works_coming, works_asks, works_session, IsMute}
use Rattle.rl_worldlanes.proofs.Concerning.{all_concern, none_concerns}

-- these are put out on the channel, and its session is this one then
abbrev pub moved : Setup → List Coming → Session → ℕ → actor.State → actor.State
moved setup comings session now s = puts (map (frame_of setup) comings) now (record s { sessions = with_entry setup.name session s.sessions })

puts_wish : (list : List Frame) (now : ℕ) (s : actor.State) → (puts list now s).wish ≡ s.wish
puts_wish [] now s = refl
puts_wish (frame ∷ more) now s = refl

module _ (setup : Setup) (comings : List Coming) (session : Session) (now : ℕ) (s next : actor.State)
    (free : s.ended ≡ None) (flushed : s.waiting ≡ []) (is : next ≡ moved setup comings session now s) where
  abbrev Put : List Frame
  Put = map (frame_of setup) comings

  abbrev Before : actor.State
  Before = record s { sessions = with_entry setup.name session s.sessions }

  moved_waiting : next.waiting ≡ Put
  moved_waiting = ap (λ (x : actor.State). x.waiting) is ∙ puts_waiting Put now Before ∙ ap (λ (frames : List Frame). frames ++ Put) flushed

  moved_wish : next.wish ≡ s.wish
  moved_wish = ap (λ (x : actor.State). x.wish) is ∙ puts_wish Put now Before

  moved_sessions : (q : List ℕ) → at q next.sessions ≡ at q (with_entry setup.name session s.sessions)
  moved_sessions q = ap (λ (x : actor.State). at q x.sessions) is ∙ ap (at q) (puts_sessions Put now Before)

  -- every other channel stays
  pub moved_mute : (q : List ℕ) → bytes_eq q setup.name ≡ false → IsMute q s next
  moved_mute q apart = record {
    goes = λ on. free;
    asks = λ on. ap (asks_in_hand q) moved_wish;
    sessions = λ on.
        moved_sessions q ∙ at_with q setup.name session s.sessions ∙ ap (λ (b : Bool). cond b (Some session) (at q s.sessions)) apart;
    none = ap (filter (concerns q)) moved_waiting ∙ none_concerns q setup comings apart;
  }

-- the channel's link has them behind what was coming
pub moved_sees : (setup : Setup) (comings : List Coming) (session : Session) (now : ℕ) (act : actor.State → actor.State)
    (t : Transport) (link : Link) → t.cut ≡ false → IsFront t.to_client → t.actor.ended ≡ None → t.actor.waiting ≡ []
    → act t.actor ≡ moved setup comings session now t.actor → Sees setup t link
    → Sees setup (works act t) (record link { coming = link.coming ++ comings; session = Some session })
moved_sees setup comings session now act t link uncut front free flushed is sees = record {
  coming =
      works_coming setup.name act t uncut front
      ∙ ap (λ (frames : List Frame). coming_on setup.name t ++ filter (concerns setup.name) frames)
      (moved_waiting setup comings session now t.actor (act t.actor) free flushed is)
      ∙ ap (λ (frames : List Frame). coming_on setup.name t ++ frames) (all_concern setup comings)
      ∙ ap (λ (frames : List Frame). frames ++ map (frame_of setup) comings) sees.coming
      ∙ sym (map-append (frame_of setup) link.coming comings);
  asks = λ on.
      works_asks setup.name act t
      ∙ ap (λ (wish : Wish). asks_in_hand setup.name wish ++ flat_map (asks_of setup.name) (under_way t.to_service))
      (moved_wish setup comings session now t.actor (act t.actor) free flushed is)
      ∙ sees.asks free;
  session = λ on.
      works_session setup.name act t
      ∙ moved_sessions setup comings session now t.actor (act t.actor) free flushed is setup.name
      ∙ at_own setup.name session t.actor.sessions;
}

-- AN ACTOR THAT STAYS, AND ONE THAT LAGS BEHIND

pub same_mute : (q : List ℕ) (s next : actor.State) → s.waiting ≡ [] → next ≡ s → IsMute q s next
same_mute q s next flushed is = subst (λ (x : actor.State). IsMute q s x) (sym is) (record {
  goes = λ on. on;
  asks = λ on. refl;
  sessions = λ on. refl;
  none = ap (filter (concerns q)) flushed;
})

pub lagged_mute : (q : List ℕ) (position first : ℕ) (s next : actor.State) → s.waiting ≡ []
    → next ≡ ended_by (Lagged position first) s → IsMute q s next
lagged_mute q position first s next flushed is = subst (λ (x : actor.State). IsMute q s x) (sym is) (record {
  goes = λ on. absurd (cc);
  asks = λ on. absurd (cc);
  sessions = λ on. absurd (cc);
  none = ap (λ (frames : List Frame). filter (concerns q) (frames ++ option_to_list (farewell (Lagged position first)))) flushed;
})
