-- What a world shows.
use Rattle.std.proofs.Common.{◌≡◌, ℕ, ◌-◌, ◌≤◌, List, [], ◌∷◌, length, refl, sym, ◌∙◌, ap, subst, arith, length-drop}
use Rattle.std.specs.Prelude.{Option, Some, None}
use Rattle.rl_events.specs.declared.channel.ChannelEvent.{ChannelEvent}
use Rattle.rl_runs.specs.declared.findings.ChannelFindings.{ChannelFindings}
use Rattle.rl_runs.specs.declared.findings.ClientFindings.{ClientFindings}
use Rattle.rl_runs.specs.declared.findings.Segment.{Segment}
use Rattle.rl_runs.specs.declared.script.Line.{Line}
use Rattle.rl_model.specs.declared.plain.Client.{Client}
use Rattle.rl_model.specs.Client.{pending, numbered}
use Rattle.rl_model.specs.Verdict.{head}
use Rattle.rl_model.specs.Records.{the_epoch, the_site, segment_end}
use Rattle.rl_model.specs.World.{World, final}
use Rattle.rl_model.specs.Findings.{findings, channels_shown, clients_shown}
use Rattle.rl_claims.specs.Sound.{IsSoundSegment, HasSoundRecord}
use Rattle.rl_claims.proofs.Sound.{sound_records, each_weaker}
use Rattle.rl_chanlog.specs.Keeps.{ChanLogView, Keeps}
use Rattle.rl_channel.specs.State.{ChannelState, StandsAt, StandsFor}
use Rattle.rl_model.specs.Parts.{Parts, parts_of}
use Rattle.rl_world.specs.State.{WorldState, Rest, Shows, is_begun}
use Rattle.rl_world.specs.Ends.{EndsBy}
use Rattle.rl_world.specs.Kept.{channels_kept}
use Rattle.rl_world.proofs.Places.{length-numbered}

pub pending_count : (client : Client) → length (pending client) ≡ length client.published - length client.answers
pending_count client = length-drop (length client.answers) (numbered 0 client.published) ∙ ap (λ n. n - length client.answers) (length-numbered client.published 0)

kept_shown : (name : Option (List ℕ)) (past : List ChannelEvent) → channels_kept name (is_begun past) (parts_of the_site past) ≡ channels_shown name past
kept_shown None [] = refl
kept_shown None (event ∷ past) = refl
kept_shown (Some name) [] = refl
kept_shown (Some name) (event ∷ past) = refl

pub sound_ends : (past : List ChannelEvent) (client : Option Client) (top : ℕ) → top ≡ head the_site past → HasSoundRecord past client → EndsBy top client
sound_ends past None top is sound = tt
sound_ends past (Some client) top is sound =
    each_weaker (IsSoundSegment the_site past) (λ (segment : Segment). segment_end segment ≤ top) (λ (segment : Segment) one. omega (arith, one.within, is)) client.segments sound.each

-- the log of a machine, at the site of the world
keeps_at : (state : ChannelState) (log : ChanLogView) → state.setup.site ≡ the_site → ((past : List ChannelEvent) → StandsFor state past → Keeps log (parts_of state.setup.site past))
    → (past : List ChannelEvent) → StandsAt the_site state past → Keeps log (parts_of the_site past)
keeps_at state log site says past stands =
    subst (λ (s : List ℕ). Keeps log (parts_of s past)) site (says past (subst (λ (s : List ℕ). StandsAt s state past) (sym site) stands))

-- the findings of what is kept are those of the script
pub found : (script : List Line) (state : WorldState) (log other : ChanLogView) (top : ℕ) (channels : List ChannelFindings) (clients : List ClientFindings)
    → Shows state (final script) → ((past : List ChannelEvent) → StandsFor state.machine past → Keeps log (parts_of state.machine.setup.site past))
    → ((past : List ChannelEvent) → StandsFor state.machine past → Keeps other (parts_of state.machine.setup.site past))
    → ((parts : Parts) → Keeps log parts → top ≡ length parts.log)
    → ((parts : Parts) → Keeps other parts → channels ≡ channels_kept state.channel state.begun parts) → (EndsBy top state.client → clients ≡ clients_shown state.channel state.client)
    → record { epoch = the_epoch; channels = channels; clients = clients } ≡ findings (final script)
found script state log other top channels clients is keeps holds at own others =
    let world : World = final script in
    let parts : Keeps log (parts_of the_site world.past) = keeps_at state.machine log is.site keeps world.past is.machine in
    let b : state.begun ≡ is_begun world.past = ap (λ (r : Rest). r.begun) is.rest in
    let n : state.channel ≡ world.channel = ap (λ (r : Rest). r.channel) is.rest in
    let c : state.client ≡ world.client = ap (λ (r : Rest). r.client) is.rest in
    let high : top ≡ head the_site world.past = at (parts_of the_site world.past) parts in
    let ends : EndsBy top state.client = subst (λ (x : Option Client). EndsBy top x) (sym c) (sound_ends world.past world.client top high (sound_records script)) in
    let first : channels ≡ channels_shown world.channel world.past =
    own (parts_of the_site world.past) (keeps_at state.machine other is.site holds world.past is.machine) ∙ ap (λ x. channels_kept x state.begun (parts_of the_site world.past)) n ∙ ap (λ x. channels_kept world.channel x (parts_of the_site world.past)) b ∙ kept_shown world.channel world.past in
    let second : clients ≡ clients_shown world.channel world.client =
    others ends ∙ ap (λ x. clients_shown x state.client) n ∙ ap (λ x. clients_shown world.channel x) c in
    ap (λ x. record { epoch = the_epoch; channels = x; clients = clients }) first
    ∙ ap (λ x. record { epoch = the_epoch; channels = channels_shown world.channel world.past; clients = x }) second
