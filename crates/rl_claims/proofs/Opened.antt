-- No segment behind the first is ever Opened: a client that has a segment holds a serial, and asks for it.
use Rattle.std.proofs.Common.{◌≡◌, ℕ, zero, suc, ◌≤◌, Bool, true, false, List, [], ◌∷◌, ◌++◌, length, drop, refl, sym, subst, arith}
use Rattle.std.specs.Prelude.{⊤, Option, Some, None, fold, slice_get}
use Rattle.std.specs.List.{AllByRecursion}
use Rattle.rl_types.specs.declared.messages.Entry.{Entry}
use Rattle.rl_types.specs.declared.messages.Body.{Body}
use Rattle.rl_types.specs.declared.messages.Body.TheVariants.{Messages}
use Rattle.rl_types.specs.declared.messages.Given.{Given}
use Rattle.rl_types.specs.declared.messages.Given.TheVariants.{Ours}
use Rattle.rl_runs.specs.declared.findings.Answer.{Answer}
use Rattle.rl_runs.specs.declared.findings.Cause.TheVariants.{Opened, NotRetained}
use Rattle.rl_runs.specs.declared.findings.Segment.{Segment}
use Rattle.rl_runs.specs.declared.script.Line.{Line}
use Rattle.rl_runs.specs.declared.script.Line.TheVariants as lines
use Rattle.rl_runs.specs.declared.commands.Command.{Command}
use Rattle.rl_runs.specs.declared.commands.Command.TheVariants.{Attach, AttachAt, Publish}
use Rattle.rl_types.specs.declared.states.ConnState.{ConnState}
use Rattle.rl_types.specs.declared.states.ConnState.TheVariants as conn
use Rattle.rl_types.specs.declared.states.ChanState.{ChanState}
use Rattle.rl_types.specs.declared.states.ChanState.TheVariants as chan
use Rattle.rl_model.specs.declared.plain.Client.{Client}
use Rattle.rl_model.specs.declared.plain.Sent.{Sent}
use Rattle.rl_model.specs.declared.plain.Sent.TheVariants.{Asks, Sends}
use Rattle.rl_model.specs.Verdict.{log, decisions, verdict}
use Rattle.rl_events.specs.declared.channel.ChannelEvent.TheVariants.{Put}
use Rattle.rl_model.specs.History.{setting}
use Rattle.rl_model.specs.Reply.{is_resumed, joined_place}
use Rattle.rl_model.specs.Records.{the_epoch, the_site, segment_from, segments_after, caught_up, got_in, last_segment, held_of}
use Rattle.rl_model.specs.Client.{held, connected, opened, dropped, numbered, pending, attach_again, attaching_again, if_connected, attach_in, publish, act, channel_of}
use Rattle.rl_model.specs.World.{World, the_conn, answer_of, serve, serve_next, finish, serve_all, settle_in, settle, with_client, after_line, final, empty_world, changed, named_by}
use Rattle.rl_claims.specs.Sound.{IsOpened, OpenedAt, OpensAgainOnlyAfterLeaving}
use Rattle.rl_claims.proofs.Sound.{each_and}

-- SEGMENTS

abbrev pub NoneOpened : List Segment → Type 0
NoneOpened segments = AllByRecursion (λ (segment : Segment). segment.cause ≡ Opened → ⊥) segments

abbrev pub NoLaterOpened : List Segment → Type 0
NoLaterOpened [] = ⊤
NoLaterOpened (segment ∷ segments) = NoneOpened segments

later_and : (segments : List Segment) (segment : Segment) → NoLaterOpened segments → (segment.cause ≡ Opened → ⊥) → NoLaterOpened (segments ++ segment ∷ [])
later_and [] segment later not = tt
later_and (s ∷ segments) segment later not = each_and (λ (segment : Segment). segment.cause ≡ Opened → ⊥) segments segment later not

-- what is asked without a serial is asked by a client without segments
later_answered : (asked : Option Given) (resumed : Bool) (place : ℕ) (segments : List Segment) → NoLaterOpened segments → (asked ≡ None → segments ≡ [])
    → NoLaterOpened (segments_after asked resumed place segments)
later_answered None resumed place segments later empty =
    subst (λ (s : List Segment). NoLaterOpened (s ++ segment_from place Opened ∷ [])) (sym (empty refl)) tt
later_answered (Some asked) true place [] later empty = tt
later_answered (Some asked) true place (segment ∷ segments) later empty = later
later_answered (Some asked) false place segments later empty =
    later_and segments (segment_from place (NotRetained asked)) later (λ is. absurd (cc))

none_caught : (entries : List Entry) (segments : List Segment) → NoneOpened segments → NoneOpened (caught_up entries segments)
none_caught entries [] none = tt
none_caught entries (segment ∷ []) none = (none.0, tt)
none_caught entries (segment ∷ next ∷ segments) none = (none.0, none_caught entries (next ∷ segments) none.1)

later_caught : (entries : List Entry) (segments : List Segment) → NoLaterOpened segments → NoLaterOpened (caught_up entries segments)
later_caught entries [] later = tt
later_caught entries (segment ∷ []) later = tt
later_caught entries (segment ∷ next ∷ segments) later = none_caught entries (next ∷ segments) later

-- WHAT IS SENT

abbrev pub NoAsks : List Sent → Type 0
NoAsks [] = ⊤
NoAsks (Asks asked ∷ sent) = ⊥
NoAsks (Sends serial body ∷ sent) = NoAsks sent

-- one ATTACH at most, which lacks a serial only where there are no segments
abbrev pub AsksOnce : List Segment → List Sent → Type 0
AsksOnce segments [] = ⊤
AsksOnce segments (Asks asked ∷ sent) = (asked ≡ None → segments ≡ []) × NoAsks sent
AsksOnce segments (Sends serial body ∷ sent) = AsksOnce segments sent

once_of_none : (segments : List Segment) (sent : List Sent) → NoAsks sent → AsksOnce segments sent
once_of_none segments [] none = tt
once_of_none segments (Asks asked ∷ sent) none = absurd none
once_of_none segments (Sends serial body ∷ sent) none = once_of_none segments sent none

none_and_none : (sent more : List Sent) → NoAsks sent → NoAsks more → NoAsks (sent ++ more)
none_and_none [] more none next = next
none_and_none (Asks asked ∷ sent) more none next = absurd none
none_and_none (Sends serial body ∷ sent) more none next = none_and_none sent more none next

once_and_none : (segments : List Segment) (sent more : List Sent) → AsksOnce segments sent → NoAsks more → AsksOnce segments (sent ++ more)
once_and_none segments [] more once next = once_of_none segments more next
once_and_none segments (Asks asked ∷ sent) more once next = (once.0, none_and_none sent more once.1 next)
once_and_none segments (Sends serial body ∷ sent) more once next = once_and_none segments sent more once next

none_and_once : (segments : List Segment) (sent more : List Sent) → NoAsks sent → AsksOnce segments more → AsksOnce segments (sent ++ more)
none_and_once segments [] more none next = next
none_and_once segments (Asks asked ∷ sent) more none next = absurd none
none_and_once segments (Sends serial body ∷ sent) more none next = none_and_once segments sent more none next

none_numbered : (serial : ℕ) (bodies : List Body) → NoAsks (numbered serial bodies)
none_numbered serial [] = tt
none_numbered serial (body ∷ bodies) = none_numbered (suc serial) bodies

none_dropped : (count : ℕ) (sent : List Sent) → NoAsks sent → NoAsks (drop count sent)
none_dropped zero sent none = none
none_dropped (suc count) [] none = tt
none_dropped (suc count) (Asks asked ∷ sent) none = absurd none
none_dropped (suc count) (Sends serial body ∷ sent) none = none_dropped count sent none

none_pending : (client : Client) → NoAsks (pending client)
none_pending client = none_dropped (length client.answers) (numbered 0 client.published) (none_numbered 0 client.published)

-- CLIENTS

-- before its first ATTACH a client has no segments
abbrev pub IsFresh : ChanState → List Segment → List Sent → Type 0
IsFresh chan.Initialized segments sent = NoAsks sent × (segments ≡ [])
IsFresh _ segments sent = ⊤

pub record IsFine (state : ChanState) (segments : List Segment) (sent : List Sent) : Type 0 where
  pub later : NoLaterOpened segments
  pub asks : AsksOnce segments sent
  pub fresh : IsFresh state segments sent

abbrev pub Fine : Client → Type 0
Fine client = IsFine client.chan client.segments client.sent

abbrev pub FineFor : Option Client → Type 0
FineFor None = ⊤
FineFor (Some client) = Fine client

-- with a segment a serial is held
none_held : (asked : Option Given) (segments : List Segment) → held_of asked (last_segment segments) ≡ None → segments ≡ []
none_held asked [] none = refl
none_held asked (segment ∷ []) none = absurd (cc)
none_held asked (segment ∷ next ∷ segments) none = let empty : next ∷ segments ≡ [] = none_held asked (next ∷ segments) none in absurd (cc)

once_again : (state : ChanState) (serial : Option Given) (segments : List Segment) (more : List Sent) → (serial ≡ None → segments ≡ []) → NoAsks more
    → AsksOnce segments (attach_again state serial ++ more)
once_again chan.Attaching serial segments more empty none = (empty, none)
once_again chan.Attached serial segments more empty none = (empty, none)
once_again _ serial segments more empty none = once_of_none segments more none

fresh_again : (state : ChanState) (serial : Option Given) (segments : List Segment) (sent more : List Sent) → IsFresh state segments sent → NoAsks more
    → IsFresh (attaching_again state) segments (attach_again state serial ++ more)
fresh_again chan.Initialized serial segments sent more fresh none = (none, fresh.1)
fresh_again _ serial segments sent more fresh none = tt

fine_connected : (client : Client) → Fine client → Fine (connected client)
fine_connected client fine = record {
  later = fine.later;
  asks = once_again client.chan (held client) client.segments (pending client) (none_held client.asked client.segments) (none_pending client);
  fresh = fresh_again client.chan (held client) client.segments client.sent (pending client) fine.fresh (none_pending client);
}

-- COMMANDS

once_asks : (state : ConnState) (serial : Option Given) (segments : List Segment) → segments ≡ [] → AsksOnce segments (if_connected state (Asks serial))
once_asks conn.Connected serial segments empty = (λ is. empty, tt)
once_asks _ serial segments empty = tt

none_sends : (state : ConnState) (serial : ℕ) (body : Body) → NoAsks (if_connected state (Sends serial body))
none_sends conn.Connected serial body = tt
none_sends _ serial body = tt

fine_attach : (state : ChanState) (serial : Option Given) (client : Client) → Fine client → IsFresh state client.segments client.sent → Fine (attach_in state serial client)
fine_attach chan.Initialized serial client fine fresh = record {
  later = fine.later;
  asks =
      none_and_once client.segments client.sent (if_connected client.conn (Asks serial)) fresh.0
      (once_asks client.conn serial client.segments fresh.1);
  fresh = tt;
}
fine_attach _ serial client fine fresh = fine

fresh_and : (state : ChanState) (segments : List Segment) (sent more : List Sent) → IsFresh state segments sent → NoAsks more → IsFresh state segments (sent ++ more)
fresh_and chan.Initialized segments sent more fresh none = (none_and_none sent more fresh.0 none, fresh.1)
fresh_and _ segments sent more fresh none = tt

fine_publish : (body : Body) (client : Client) → Fine client → Fine (publish body client)
fine_publish body client fine =
    let more : List Sent = if_connected client.conn (Sends (length client.published) body) in
    let none = none_sends client.conn (length client.published) body in
    record {
      later = fine.later;
      asks = once_and_none client.segments client.sent more fine.asks none;
      fresh = fresh_and client.chan client.segments client.sent more fine.fresh none;
    }

fine_act : (command : Command) (client : Client) → Fine client → Fine (act command client)
fine_act (Attach channel) client fine = fine_attach client.chan None client fine fine.fresh
fine_act (AttachAt channel serial) client fine = fine_attach client.chan (Some (Ours serial)) client fine fine.fresh
fine_act (Publish channel items) client fine = fine_publish (Messages items) client fine
fine_act _ client fine = fine

-- WHAT IS SERVED

-- a client of whose commands these are still to be served
abbrev pub Serving : Option Client → List Sent → Type 0
Serving None sent = ⊤
Serving (Some client) sent = IsFine client.chan client.segments sent × (client.sent ≡ [])

fresh_next : (state : ChanState) (segments : List Segment) (serial : ℕ) (body : Body) (sent : List Sent) → IsFresh state segments (Sends serial body ∷ sent) → IsFresh state segments sent
fresh_next chan.Initialized segments serial body sent fresh = fresh
fresh_next _ segments serial body sent fresh = tt

all_served : (sent : List Sent) (world : World) (client : Client) → Serving (Some client) sent → Serving (fold serve_next (with_client world client) sent).client []
all_served [] world client own = own
all_served (Asks asked ∷ sent) world client own =
    let place : ℕ = joined_place the_epoch the_site world.past asked in
    let resumed : Bool = is_resumed the_epoch the_site world.past asked in
    let after : List Segment = segments_after asked resumed place client.segments in
    all_served sent (serve (with_client world client) client (Asks asked)) (record client { chan = chan.Attached; segments = after }) (
      record {
        later = later_answered asked resumed place client.segments own.0.later own.0.asks.0;
        asks = once_of_none after sent own.0.asks.1;
        fresh = tt;
      },
      own.1,
    )
all_served (Sends serial body ∷ sent) world client own =
    let answers : List Answer = client.answers ++ answer_of serial (verdict (setting the_site (Put the_conn serial body 0 ∷ world.past)) (decisions the_site world.past) the_conn serial body) in
    all_served sent (serve (with_client world client) client (Sends serial body)) (record client { answers = answers }) (
      record {
        later = own.0.later;
        asks = own.0.asks;
        fresh = fresh_next client.chan client.segments serial body sent own.0.fresh;
      },
      own.1,
    )

got_fine : (state : ChanState) (entries : List Entry) (segments : List Segment) → IsFine state segments [] → IsFine state (got_in state entries segments) []
got_fine chan.Attached entries segments fine = record { later = later_caught entries segments fine.later; asks = tt; fresh = tt }
got_fine _ entries segments fine = fine

at_rest : (client : Option Client) → Serving client [] → FineFor client
at_rest None own = tt
at_rest (Some client) own = subst (λ (sent : List Sent). IsFine client.chan client.segments sent) (sym own.1) own.0

finished : (world : World) (client : Option Client) → FineFor world.client → Serving client [] → FineFor (finish world client).client
finished world None fine own = fine
finished world (Some client) fine own =
    subst (λ (sent : List Sent). IsFine client.chan (got_in client.chan (log the_site world.past) client.segments) sent) (sym own.1)
    (got_fine client.chan (log the_site world.past) client.segments own.0)

serves : (world : World) (client : Client) → Fine client → FineFor (serve_all world client).client
serves world client own =
    let idle : Client = record client { sent = [] } in
    let served : World = fold serve_next (with_client world idle) client.sent in
    let done = all_served client.sent world idle (own, refl) in
    finished served served.client (at_rest served.client done) done

settled_in : (state : ConnState) (world : World) (client : Client) → FineFor world.client → Fine client → FineFor (settle_in state world client).client
settled_in conn.Connecting world client fine own = serves world (connected client) (fine_connected client own)
settled_in conn.Connected world client fine own = serves world client own
settled_in _ world client fine own = fine

settled : (world : World) (client : Option Client) → FineFor world.client → FineFor client → FineFor (settle world client).client
settled world None fine own = fine
settled world (Some client) fine own = settled_in client.conn world client fine own

-- LINES

kept_by : (change : Client → Client) → ((client : Client) → Fine client → Fine (change client))
    → (world : World) (client : Option Client) → FineFor world.client → FineFor client → FineFor (changed change world client).client
kept_by change keeps world None fine own = fine
kept_by change keeps world (Some client) fine own = keeps client own

one_line : (world : World) (line : Line) → FineFor world.client → FineFor (after_line world line).client
one_line world (lines.Client name) fine = record { later = tt; asks = tt; fresh = (tt, refl) }
one_line world (lines.Open name) fine =
    kept_by (λ (client : Client). record client { conn = opened client.conn }) (λ client own. own) world world.client fine fine
one_line world (lines.Cut name) fine =
    kept_by (λ (client : Client). record client { conn = dropped client.conn }) (λ client own. own) world world.client fine fine
one_line world (lines.Act name command) fine =
    kept_by (act command) (fine_act command) (record world { channel = named_by world.channel (channel_of command) }) world.client fine fine
one_line world (lines.Feed channel count text) fine = fine
one_line world lines.Settle fine = settled world world.client fine fine
one_line world _ fine = fine

all_lines : (script : List Line) (world : World) → FineFor world.client → FineFor (fold after_line world script).client
all_lines [] world fine = fine
all_lines (line ∷ script) world fine = all_lines script (after_line world line) (one_line world line fine)

-- A LATER SEGMENT THAT IS OPENED

none_at : (segments : List Segment) (place : ℕ) → NoneOpened segments → IsOpened (slice_get segments place) → ⊥
none_at [] place none is = is
none_at (segment ∷ segments) zero none is = none.0 is
none_at (segment ∷ segments) (suc place) none is = none_at segments place none.1 is

none_later : (segments : List Segment) (place : ℕ) → 1 ≤ place → NoLaterOpened segments → IsOpened (slice_get segments place) → ⊥
none_later [] place behind later is = is
none_later (segment ∷ segments) zero behind later is = absurd (omega arith)
none_later (segment ∷ segments) (suc place) behind later is = none_at segments place later is

never : (client : Option Client) (place : ℕ) → 1 ≤ place → FineFor client → OpenedAt place client → ⊥
never None place behind fine is = is
never (Some client) place behind fine is = none_later client.segments place behind fine.later is

pub opens_again_only_after_leaving : (script : List Line) → OpensAgainOnlyAfterLeaving script
opens_again_only_after_leaving script before behind is =
    absurd (never (final script).client before behind (all_lines script empty_world tt) is)
