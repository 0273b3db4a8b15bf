-- What every action keeps is kept by every line, and so by every script.
use Rattle.std.proofs.Common.{◌≡◌, refl, ap, ◌∙◌, ℕ, zero, suc, Bool, true, false, List, [], ◌∷◌, ◌++◌, fold}
use Rattle.rl_numbers.specs.declared.limits.TheConstants.{MAX_ROUNDS, ROUND_GETS}
use Rattle.rl_runs.specs.declared.script.Line.{Line}
use Rattle.rl_runs.specs.declared.script.Line.TheVariants as lines
use Rattle.rl_worldmodel.specs.World.{World, empty_world}
use Rattle.rl_worldmodel.specs.Actors.{session_names}
use Rattle.rl_worldmodel.specs.Actions.{Action, Gets, Steps, Pages, Polls, Reaps, does, after_action, all_done}
use Rattle.rl_worldmodel.specs.Settling.{Round, act, channel_round, channels_round, transport_round, client_round, times, client_names, transport_numbers, one_round, go_on, rounds, settles}
use Rattle.rl_worldmodel.specs.Lines.{actions_of, after_line, final}
use Rattle.rl_worldmodel.specs.Acting.{Leads, is_of_round, AreOfRounds, RoundsLead, LinesAct, ScriptsAct}

fold_keeps : {A B : Type 0} (Q : B → Type 0) (f : B → A → B) → ((b : B) (a : A) → Q b → Q (f b a)) → (xs : List A) (b : B) → Q b → Q (fold f b xs)
fold_keeps Q f step [] b h = h
fold_keeps Q f step (x ∷ xs) b h = fold_keeps Q f step xs (f b x) (step b x h)

times_keeps : {X : Type 0} (Q : X → Type 0) (f : X → X) → ((x : X) → Q x → Q (f x)) → (n : ℕ) (x : X) → Q x → Q (times n f x)
times_keeps Q f step zero x h = h
times_keeps Q f step (suc n) x h = times_keeps Q f step n (f x) (step x h)

-- A SETTLING: WHAT THE ACTIONS OF ITS ROUNDS KEEP

module _ (P : World → Type 0) (keeps : (action : Action) → is_of_round action ≡ true → (world : World) → P world → P (does action world)) where
  abbrev holds : Round → Type 0
  holds round = P round.world

  channel_keeps : (k : ℕ) (round : Round) (name : List ℕ) → holds round → holds (channel_round k round name)
  channel_keeps k round name h =
      keeps (Polls k name) refl (act (Pages k name) round).world (keeps (Pages k name) refl round.world h)

  channels_keep : (k : ℕ) (round : Round) → holds round → holds (channels_round k round)
  channels_keep k round h = fold_keeps holds (channel_round k) (channel_keeps k) (session_names k round.world) round h

  transport_keeps : (round : Round) (k : ℕ) → holds round → holds (transport_round round k)
  transport_keeps round k h = channels_keep k (act (Steps k) round) (keeps (Steps k) refl round.world h)

  client_keeps : (round : Round) (name : List ℕ) → holds round → holds (client_round round name)
  client_keeps round name h = times_keeps holds (act (Gets name)) (λ r p. keeps (Gets name) refl r.world p) ROUND_GETS round h

  round_keeps : (world : World) → P world → P (one_round world).world
  round_keeps world h =
      fold_keeps holds client_round client_keeps (client_names world) _
      (keeps Reaps refl _ (fold_keeps holds transport_round transport_keeps (transport_numbers world) (record { world = world; acted = false }) h))

  go_on_keeps : (acted : Bool) (world : World) (rest : World → World) → ((w : World) → P w → P (rest w)) → P world → P (go_on acted world rest)
  go_on_keeps true world rest step h = step world h
  go_on_keeps false world rest step h = h

  rounds_keep : (n : ℕ) (world : World) → P world → P (rounds n world)
  rounds_keep zero world h = h
  rounds_keep (suc n) world h =
      go_on_keeps (one_round world).acted (one_round world).world (rounds n) (rounds_keep n) (round_keeps world h)

  settle_keeps : (world : World) → P world → P (settles world)
  settle_keeps world h = rounds_keep MAX_ROUNDS world h

-- EACH LINE: WHAT ALL ACTIONS KEEP

module _ (P : World → Type 0) (keeps : (action : Action) (world : World) → P world → P (does action world)) where
  pub all_keep : (actions : List Action) (world : World) → P world → P (all_done actions world)
  all_keep actions world h = fold_keeps P after_action (λ w action p. keeps action w p) actions world h

  pub line_keeps : (world : World) (line : Line) → P world → P (after_line world line)
  line_keeps world (lines.Client name) h = all_keep (actions_of (lines.Client name) world) world h
  line_keeps world (lines.Open name) h = all_keep (actions_of (lines.Open name) world) world h
  line_keeps world (lines.Cut name) h = all_keep (actions_of (lines.Cut name) world) world h
  line_keeps world (lines.Recover name other) h = all_keep (actions_of (lines.Recover name other) world) world h
  line_keeps world (lines.Act name command) h = all_keep (actions_of (lines.Act name command) world) world h
  line_keeps world (lines.Get name) h = all_keep (actions_of (lines.Get name) world) world h
  line_keeps world (lines.Step name index) h = all_keep (actions_of (lines.Step name index) world) world h
  line_keeps world (lines.Page name index channel) h = all_keep (actions_of (lines.Page name index channel) world) world h
  line_keeps world (lines.Poll name index channel) h = all_keep (actions_of (lines.Poll name index channel) world) world h
  line_keeps world (lines.Timer name) h = all_keep (actions_of (lines.Timer name) world) world h
  line_keeps world (lines.Tick span) h = all_keep (actions_of (lines.Tick span) world) world h
  line_keeps world lines.Expire h = all_keep (actions_of lines.Expire world) world h
  line_keeps world lines.Reap h = all_keep (actions_of lines.Reap world) world h
  line_keeps world (lines.Age channel) h = all_keep (actions_of (lines.Age channel) world) world h
  line_keeps world (lines.Feed channel count text) h = all_keep (actions_of (lines.Feed channel count text) world) world h
  line_keeps world (lines.FeedId channel id text) h = all_keep (actions_of (lines.FeedId channel id text) world) world h
  line_keeps world lines.Settle h = settle_keeps P (λ action of_round w p. keeps action w p) world h

  -- of every script, where it holds of the empty world
  pub final_keeps : P empty_world → (script : List Line) → P (final script)
  final_keeps begins script = fold_keeps P after_line line_keeps script empty_world begins

-- ACTIONS LEAD ON

one_more : (actions : List Action) (action : Action) (world : World) → all_done (actions ++ action ∷ []) world ≡ does action (all_done actions world)
one_more [] action world = refl
one_more (first ∷ actions) action world = one_more actions action (does first world)

leads_on : (start : World) (action : Action) (world : World) → Leads start world → Leads start (does action world)
leads_on start action world led = (led.0 ++ action ∷ [], one_more led.0 action start ∙ ap (does action) led.1)

all_and_one : (actions : List Action) (action : Action) → AreOfRounds actions → is_of_round action ≡ true → AreOfRounds (actions ++ action ∷ [])
all_and_one [] action all one = (one, tt)
all_and_one (first ∷ actions) action all one = (all.0, all_and_one actions action all.1 one)

round_leads_on : (start : World) (action : Action) → is_of_round action ≡ true → (world : World) → RoundsLead start world → RoundsLead start (does action world)
round_leads_on start action of_round world led =
    (led.0 ++ action ∷ [], all_and_one led.0 action led.1 of_round, one_more led.0 action start ∙ ap (does action) led.2)

settle_acts : (world : World) → RoundsLead world (settles world)
settle_acts world = settle_keeps (RoundsLead world) (round_leads_on world) world ([], tt, refl)

pub lines_act : LinesAct
lines_act world (lines.Client name) = refl
lines_act world (lines.Open name) = refl
lines_act world (lines.Cut name) = refl
lines_act world (lines.Recover name other) = refl
lines_act world (lines.Act name command) = refl
lines_act world (lines.Get name) = refl
lines_act world (lines.Step name index) = refl
lines_act world (lines.Page name index channel) = refl
lines_act world (lines.Poll name index channel) = refl
lines_act world (lines.Timer name) = refl
lines_act world (lines.Tick span) = refl
lines_act world lines.Expire = refl
lines_act world lines.Reap = refl
lines_act world (lines.Age channel) = refl
lines_act world (lines.Feed channel count text) = refl
lines_act world (lines.FeedId channel id text) = refl
lines_act world lines.Settle = settle_acts world

pub scripts_act : ScriptsAct
scripts_act script = final_keeps (Leads empty_world) (leads_on empty_world) ([], refl) script
