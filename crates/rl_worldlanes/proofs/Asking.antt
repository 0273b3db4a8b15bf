-- What a client's frames ask on the channel of a name.
use Rattle.std.proofs.Common.{◌≡◌, ℕ, Bool, true, false, cond, List, [], ◌∷◌, ◌++◌, refl, sym, ◌∙◌, ap, subst, is_eq}
use Rattle.std.specs.Prelude.{Option, Some, option_map, bytes_eq, flat_map, if◌then◌else◌}
use Rattle.std.specs.Ordering.{nat_cmp}
use Rattle.std.specs.declared.cmp.Ordering.TheVariants.{Less}
use Rattle.std.specs.Cmp.Lexicographic.{slice_cmp}
use Rattle.std.specs.List.{AllByRecursion}
use Rattle.std.specs.BTreeMap.{is_at}
use Rattle.std.proofs.lemmas.Map.Text.{is_eq-slice_cmp}
use Rattle.rl_types.specs.declared.messages.Given.{Given}
use Rattle.rl_types.specs.declared.messages.Given.TheVariants.{Ours}
use Rattle.rl_types.specs.declared.frames.Frame.{Frame}
use Rattle.rl_types.specs.declared.frames.Frame.TheVariants as frames
use Rattle.rl_chansm.specs.declared.table.ChanEvent.TheVariants as event
use Rattle.rl_chansm.specs.Rules.{sends_attach, sends_detach}
use Rattle.rl_chansm.specs.Owed.{takes_unasked}
use Rattle.rl_clientmodel.specs.declared.steps.ChannelStep.{ChannelStep}
use Rattle.rl_clientmodel.specs.declared.steps.ChannelStep.TheVariants as kinds
use Rattle.rl_clientmodel.specs.Channels.{ClientChannel, channel_asks}
use Rattle.rl_clientmodel.specs.States.{all_asks}
use Rattle.rl_names.specs.Names.{at}
use Rattle.rl_lanes.specs.Lanes.{Ask, ToAttach, ToDetach}
use Rattle.rl_lanes.specs.Moves.{asks_in}
use Rattle.rl_worldlanes.specs.Views.{asks_of}
use Rattle.rl_objmodel.specs.Places.{AreRising}
use Rattle.rl_worldlanes.proofs.Lanes.{append_none, flat_append, same_name, self_name, known_asks}

-- ONE STEP

-- an ATTACH, a DETACH or nothing
abbrev one_of : Bool → Bool → List ℕ → Option Given → List Frame
one_of b c name given = if b then frames.Attach name given ∷ [] else if c then frames.Detach name ∷ [] else []

own_one : (b c : Bool) (name : List ℕ) (given : Option Given) → flat_map (asks_of name) (one_of b c name given) ≡ asks_in (one_of b c name given)
own_one true c name given = ap (λ (b : Bool). (if b then ToAttach given ∷ [] else []) ++ []) (self_name name)
own_one false true name given = ap (λ (b : Bool). (if b then ToDetach ∷ [] else []) ++ []) (self_name name)
own_one false false name given = refl

other_one : (b c : Bool) (q name : List ℕ) (given : Option Given) → bytes_eq q name ≡ false → flat_map (asks_of q) (one_of b c name given) ≡ []
other_one true c q name given other = ap (λ (b : Bool). (if b then ToAttach given ∷ [] else []) ++ []) other
other_one false true q name given other = ap (λ (b : Bool). (if b then ToDetach ∷ [] else []) ++ []) other
other_one false false q name given other = refl

abbrev given_of : ClientChannel → Option Given
given_of channel = option_map (λ serial. Ours serial) channel.held

own_if : (b : Bool) (name : List ℕ) (list : List Frame) → flat_map (asks_of name) list ≡ asks_in list → flat_map (asks_of name) (if b then list else []) ≡ asks_in (if b then list else [])
own_if true name list is = is
own_if false name list is = refl

other_if : (b : Bool) (q : List ℕ) (list : List Frame) → flat_map (asks_of q) list ≡ [] → flat_map (asks_of q) (if b then list else []) ≡ []
other_if true q list is = is
other_if false q list is = refl

pub own_asks : (step : ChannelStep) (name : List ℕ) (channel : ClientChannel) → flat_map (asks_of name) (channel_asks step name channel) ≡ asks_in (channel_asks step name channel)
own_asks (kinds.Moves one connected now) name channel = own_one (sends_attach connected channel.state one) (sends_detach channel.state one) name (given_of channel)
own_asks (kinds.DetachedGot connected now) name channel =
    own_if (takes_unasked channel.owed channel.state) name _
    (own_one (sends_attach connected channel.state event.DetachedUnasked) (sends_detach channel.state event.DetachedUnasked) name (given_of channel))
own_asks kinds.ErrorGot name channel = refl
own_asks kinds.LinkLost name channel = refl
own_asks kinds.LinkOpened name channel = refl
own_asks (kinds.Waited now) name channel = refl
own_asks (kinds.Collects now) name channel = refl

pub other_asks : (step : ChannelStep) (q name : List ℕ) (channel : ClientChannel) → bytes_eq q name ≡ false → flat_map (asks_of q) (channel_asks step name channel) ≡ []
other_asks (kinds.Moves one connected now) q name channel other = other_one (sends_attach connected channel.state one) (sends_detach channel.state one) q name (given_of channel) other
other_asks (kinds.DetachedGot connected now) q name channel other =
    other_if (takes_unasked channel.owed channel.state) q _
    (other_one (sends_attach connected channel.state event.DetachedUnasked) (sends_detach channel.state event.DetachedUnasked) q name (given_of channel) other)
other_asks kinds.ErrorGot q name channel other = refl
other_asks kinds.LinkLost q name channel other = refl
other_asks kinds.LinkOpened q name channel other = refl
other_asks (kinds.Waited now) q name channel other = refl
other_asks (kinds.Collects now) q name channel other = refl

-- A STEP OF ALL CHANNELS: each name is asked of once, since they rise

below : (a b : List ℕ) → slice_cmp nat_cmp a b ≡ Less → bytes_eq a b ≡ false
below a b is = sym (is_eq-slice_cmp a b) ∙ ap is_eq is

none_after : (step : ChannelStep) (name : List ℕ) (es : List (List ℕ × ClientChannel)) → AllByRecursion (λ (o : List ℕ × ClientChannel). slice_cmp nat_cmp name o.0 ≡ Less) es → flat_map (asks_of name) (all_asks step es) ≡ []
none_after step name [] above = refl
none_after step name (e ∷ es) above =
    flat_append (asks_of name) (channel_asks step e.0 e.1) (all_asks step es)
    ∙ ap (λ (xs : List Ask). xs ++ flat_map (asks_of name) (all_asks step es)) (other_asks step name e.0 e.1 (below name e.0 above.0))
    ∙ none_after step name es above.1

asks_by : (step : ChannelStep) (name : List ℕ) (e : List ℕ × ClientChannel) (es : List (List ℕ × ClientChannel)) (b : Bool) → bytes_eq name e.0 ≡ b → AreRising (e ∷ es)
    → flat_map (asks_of name) (all_asks step es) ≡ known_asks step name (at name es)
    → flat_map (asks_of name) (channel_asks step e.0 e.1) ++ flat_map (asks_of name) (all_asks step es) ≡ known_asks step name (cond b (Some e.1) (at name es))
asks_by step name e es true is rise more =
    let key : name ≡ e.0 = same_name name e.0 is in
    let own : flat_map (asks_of name) (channel_asks step e.0 e.1) ≡ asks_in (channel_asks step name e.1) =
    ap (λ (n : List ℕ). flat_map (asks_of name) (channel_asks step n e.1)) (sym key) ∙ own_asks step name e.1 in
    let none : flat_map (asks_of name) (all_asks step es) ≡ [] =
    none_after step name es (subst (λ (n : List ℕ). AllByRecursion (λ (o : List ℕ × ClientChannel). slice_cmp nat_cmp n o.0 ≡ Less) es) (sym key) rise.0) in
    ap (λ (xs : List Ask). xs ++ flat_map (asks_of name) (all_asks step es)) own
    ∙ ap (λ (xs : List Ask). asks_in (channel_asks step name e.1) ++ xs) none ∙ append_none _
asks_by step name e es false is rise more =
    ap (λ (xs : List Ask). xs ++ flat_map (asks_of name) (all_asks step es)) (other_asks step name e.0 e.1 is) ∙ more

pub asks_up : (step : ChannelStep) (name : List ℕ) (es : List (List ℕ × ClientChannel)) → AreRising es → flat_map (asks_of name) (all_asks step es) ≡ known_asks step name (at name es)
asks_up step name [] rise = refl
asks_up step name (e ∷ es) rise =
    flat_append (asks_of name) (channel_asks step e.0 e.1) (all_asks step es)
    ∙ asks_by step name e es (is_at (slice_cmp nat_cmp name) e.0) (sym (is_eq-slice_cmp name e.0)) rise (asks_up step name es rise.1)
