-- A client that connects has a new link, on every channel.
use Rattle.std.proofs.Common.{◌≡◌, ℕ, Bool, true, false, List, [], refl, ◌∙◌, ap, arith}
use Rattle.std.specs.Prelude.{Option, Some, None, if◌then◌else◌}
use Rattle.rl_types.specs.declared.states.ConnState.{ConnState}
use Rattle.rl_types.specs.declared.states.ConnState.TheVariants as conn
use Rattle.rl_types.specs.declared.frames.Frame.{Frame}
use Rattle.rl_runs.specs.declared.commands.Command.TheVariants.{Connect}
use Rattle.rl_connsm.specs.declared.table.ConnEvent.TheVariants as events
use Rattle.rl_connsm.specs.Table.{conn_table, may_connect}
use Rattle.rl_connsm.specs.Rules.{opens_link}
use Rattle.rl_names.specs.Names.{at}
use Rattle.rl_clientmodel.specs.States.{ClientState, Turn, moving}
use Rattle.rl_clientmodel.specs.Commands.{Refusal, refusal, acted, by_connection, obeyed_unless}
use Rattle.rl_lanes.specs.Lanes.{new_link, Lane}
use Rattle.rl_worldlanes.specs.Following.{setup_of}
use Rattle.rl_worldlanes.specs.Turning.{LeadsTo, link_by, asking, link_after}
use Rattle.rl_worldlanes.proofs.Lanes.{leads_as}
use Rattle.rl_worldlanes.proofs.Connection.{moved_conn}
use Rattle.rl_worldlanes.proofs.Commands.{acted_turned}

may_of : (s : ConnState) (b : Bool) → by_connection (if b then None else Some s) ≡ None → b ≡ true
may_of s true none = refl
may_of s false none = absurd (cc)

-- a client connects where that is not refused
pub may_open : (state : ClientState) → refusal Connect state ≡ None → may_connect state.conn ≡ true
may_open state none = may_of state.conn (may_connect state.conn) none

connecting_by : (s : ConnState) (from : Bool) → may_connect s ≡ true → conn_table s from events.Connect ≡ conn.Connecting
connecting_by s from is = grind (arith, is)

opening_by : (s : ConnState) → may_connect s ≡ true → opens_link s conn.Connecting ≡ true
opening_by s is = grind (arith, is)

connected_as : (now : ℕ) (state : ClientState) → refusal Connect state ≡ None → acted Connect now state ≡ moving [] events.Connect now state
connected_as now state none = ap (λ (r : Option Refusal). obeyed_unless r Connect now state) none

-- it is CONNECTING then, sends nothing, drops no link and opens one
pub opened_conn : (now : ℕ) (state : ClientState) → refusal Connect state ≡ None → (acted Connect now state).state.conn ≡ conn.Connecting
opened_conn now state none =
    ap (λ (t : Turn). t.state.conn) (connected_as now state none) ∙ moved_conn events.Connect now state ∙ connecting_by state.conn state.from_suspended (may_open state none)

pub opened_silent : (now : ℕ) (state : ClientState) → refusal Connect state ≡ None → (acted Connect now state).output.frames ≡ []
opened_silent now state none = ap (λ (t : Turn). t.output.frames) (connected_as now state none)

pub opens_new : (now : ℕ) (state : ClientState) → refusal Connect state ≡ None → opens_link state.conn (acted Connect now state).state.conn ≡ true
opens_new now state none = ap (opens_link state.conn) (opened_conn now state none) ∙ opening_by state.conn (may_open state none)

-- each lane has a new link
pub opened_turned : (state : ClientState) (now : ℕ) → refusal Connect state ≡ None → (name : List ℕ) (lane : Lane) → lane.channel ≡ at name state.channels
    → LeadsTo (setup_of name) lane (at name (acted Connect now state).state.channels) (Some new_link)
opened_turned state now none name lane is = leads_as (setup_of name) lane _ _ _ _ refl link (acted_turned Connect now state name lane is) where
  turn : Turn
  turn = acted Connect now state

  link : link_after name state (acted Connect now state) lane.link ≡ Some new_link
  link =
      ap (λ (sent : List Frame). asking name sent (link_by (opens_link state.conn (acted Connect now state).state.conn) (acted Connect now state).output.drop_link lane.link)) (opened_silent now state none)
      ∙ ap (λ (b : Bool). asking name [] (link_by b (acted Connect now state).output.drop_link lane.link)) (opens_new now state none)
