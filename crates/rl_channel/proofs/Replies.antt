-- What the parts of a history answer is what the history answers.
use Rattle.std.proofs.Common.{◌≡◌, ℕ, List, ◌∷◌, refl, ap, sym, ◌∙◌, subst, arith}
use Rattle.std.specs.Prelude.{Option, Some, None, max, Result, Ok, Err, IfOk}
use Rattle.rl_events.specs.declared.channel.ReadReply.{ReadReply}
use Rattle.rl_ids.specs.declared.members.MemberKey.{MemberKey}
use Rattle.rl_ids.specs.declared.objects.ObjectId.{ObjectId}
use Rattle.rl_events.specs.declared.channel.ChannelEvent.{ChannelEvent}
use Rattle.rl_events.specs.declared.channel.ChannelEvent.TheVariants.{Join, Read, MemberPage, ObjectPage, Tick, Census}
use Rattle.rl_types.specs.declared.messages.Given.{Given}
use Rattle.rl_types.specs.declared.messages.Given.TheVariants.{Ours, Other}
use Rattle.rl_objmodel.specs.Steps.{collected}
use Rattle.rl_model.specs.History.{clock, ticked}
use Rattle.rl_model.specs.Objects.{operated}
use Rattle.rl_model.specs.Members.{members}
use Rattle.rl_model.specs.Verdict.{head}
use Rattle.rl_model.specs.Window.{first}
use Rattle.rl_model.specs.Parts.{Parts, parts_of, aged, read_in}
use Rattle.rl_model.specs.Reply.{is_resumed, read_reply}
use Rattle.rl_chanlog.specs.Keeps.{Keeps}
use Rattle.rl_channel.specs.Steps.{goes_on}
use Rattle.rl_channel.specs.State.{ChannelState, StandsAt}
use Rattle.rl_channel.proofs.Kept.{tick_objects, unmoved}
use Rattle.rl_channel.proofs.Parts.{join_stays, read_stays, page_stays, objects_stay, census_stays, tick_ages}

pub goes_same : (epoch : ℕ) (site : List ℕ) (past : List ChannelEvent) (asked : Option Given) → goes_on epoch (first site past) (head site past) asked ≡ is_resumed epoch site past asked
goes_same epoch site past None = refl
goes_same epoch site past (Some (Ours serial)) = refl
goes_same epoch site past (Some (Other text)) = refl

-- a moment of 0 does not move the clock
same_clock : (n : ℕ) → max 0 n ≡ n
same_clock n = omega arith

-- an event that changes no part and gives no moment
stays_for : (state : ChannelState) (site : List ℕ) (past : List ChannelEvent) (event : ChannelEvent) → parts_of site (event ∷ past) ≡ parts_of site past → clock (event ∷ past) ≡ clock past → ticked (event ∷ past) ≡ ticked past → StandsAt site state past → StandsAt site state (event ∷ past)
stays_for state site past event same clocked still stands =
    record {
      keeps = subst (Keeps state.log) (sym same) stands.keeps;
      members = stands.members ∙ ap (λ (p : Parts). members p.log) (sym same);
      objects = unmoved site state.objects past event (ap (λ (p : Parts). operated p.log) same) still stands.objects;
      clock = stands.clock ∙ sym clocked;
    }

pub joined : (state : ChannelState) (site : List ℕ) (past : List ChannelEvent) (asked : Option Given) → StandsAt site state past → StandsAt site state (Join asked ∷ past)
joined state site past asked stands = stays_for state site past (Join asked) (join_stays site past asked) (same_clock (clock past)) refl stands

pub was_read : (state : ChannelState) (site : List ℕ) (past : List ChannelEvent) (from most : ℕ) → StandsAt site state past → StandsAt site state (Read from most ∷ past)
was_read state site past from most stands = stays_for state site past (Read from most) (read_stays site past from most) (same_clock (clock past)) refl stands

pub paged : (state : ChannelState) (site : List ℕ) (past : List ChannelEvent) (from : Option MemberKey) (most : ℕ) → StandsAt site state past → StandsAt site state (MemberPage from most ∷ past)
paged state site past from most stands = stays_for state site past (MemberPage from most) (page_stays site past from most) (same_clock (clock past)) refl stands

pub objects_paged : (state : ChannelState) (site : List ℕ) (past : List ChannelEvent) (from : Option ObjectId) (most : ℕ) → StandsAt site state past → StandsAt site state (ObjectPage from most ∷ past)
objects_paged state site past from most stands = stays_for state site past (ObjectPage from most) (objects_stay site past from most) (same_clock (clock past)) refl stands

pub counted : (state : ChannelState) (site : List ℕ) (past : List ChannelEvent) → StandsAt site state past → StandsAt site state (Census ∷ past)
counted state site past stands = stays_for state site past Census (census_stays site past) (same_clock (clock past)) refl stands

-- time passes
pub ticks : (old new : ChannelState) (site : List ℕ) (past : List ChannelEvent) (now : ℕ)
    → ((parts : Parts) → Keeps old.log parts → Keeps new.log (aged new.clock parts)) → new.members ≡ old.members → new.objects ≡ collected new.clock old.objects → new.clock ≡ max now old.clock
    → StandsAt site old past → StandsAt site new (Tick now ∷ past)
ticks old new site past now keeps same collects clocked stands =
    let at : new.clock ≡ max now (clock past) = clocked ∙ ap (max now) stands.clock in
    record {
      keeps = subst (Keeps new.log) (ap (λ (n : ℕ). aged n (parts_of site past)) at ∙ sym (tick_ages site past now)) (keeps (parts_of site past) stands.keeps);
      members = same ∙ stands.members ∙ ap (λ (p : Parts). members p.log) (sym (tick_ages site past now));
      objects =
          tick_objects site old.objects new.objects past now (collects ∙ ap (λ (n : ℕ). collected n old.objects) at)
          (ap (λ (p : Parts). p.log) (tick_ages site past now)) stands.objects;
      clock = at;
    }

-- a read of the parts is a read of the history
pub reads : {E : Type 0} (result : Result ReadReply E) (site : List ℕ) (state : ChannelState) (from most : ℕ)
    → IfOk result (λ reply. (parts : Parts) → Keeps state.log parts → reply ≡ read_in parts from most)
    → IfOk result (λ reply. (past : List ChannelEvent) → StandsAt site state past → reply ≡ read_reply site past from most)
reads (Ok reply) site state from most is = λ past stands. is (parts_of site past) stands.keeps
reads (Err error) site state from most is = tt
