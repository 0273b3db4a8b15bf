-- What a lane puts out concerns its channel, and no other.
use Rattle.std.proofs.Common.{◌≡◌, ℕ, Bool, false, cond, List, [], ◌∷◌, map, refl, ◌∙◌, ap}
use Rattle.std.specs.Prelude.{Some, bytes_eq}
use Rattle.std.specs.List.{filter}
use Rattle.rl_types.specs.declared.messages.Body.{Body}
use Rattle.rl_types.specs.declared.messages.Body.TheVariants.{Messages, Presence, Objects}
use Rattle.rl_types.specs.declared.frames.Head.{Head}
use Rattle.rl_types.specs.declared.frames.Frame.{Frame}
use Rattle.rl_actormodel.specs.Reads.{body_frame, entry_head}
use Rattle.rl_lanes.specs.Lanes.{Setup, OfMembers, EndOfMembers, OfObjects, EndOfObjects, Coming, Tells, Leaves, Fails, Gives, Shows, frame_of}
use Rattle.rl_worldtold.proofs.Shape.{self_bytes}
use Rattle.rl_worldlanes.specs.Views.{channel_of, is_name, concerns}

body_channel : (head : Head) (items : Body) → channel_of (body_frame head items) ≡ Some head.channel
body_channel head (Messages items) = refl
body_channel head (Presence items) = refl
body_channel head (Objects ops) = refl

-- each frame names the lane's channel
pub channel_is : (setup : Setup) (coming : Coming) → channel_of (frame_of setup coming) ≡ Some setup.name
channel_is setup (Tells given number joining) = refl
channel_is setup Leaves = refl
channel_is setup (Fails given code) = refl
channel_is setup (Gives epoch entry) = body_channel (entry_head setup.name epoch entry) entry.body
channel_is setup (Shows (OfMembers at items last)) = refl
channel_is setup (Shows (EndOfMembers at)) = refl
channel_is setup (Shows (OfObjects at states last)) = refl
channel_is setup (Shows (EndOfObjects at)) = refl

concerned : (q : List ℕ) (setup : Setup) (coming : Coming) → concerns q (frame_of setup coming) ≡ bytes_eq q setup.name
concerned q setup coming = ap (is_name q) (channel_is setup coming)

-- all of them concern it
pub all_concern : (setup : Setup) (comings : List Coming)
    → filter (concerns setup.name) (map (frame_of setup) comings) ≡ map (frame_of setup) comings
all_concern setup [] = refl
all_concern setup (coming ∷ more) =
    let rest : List Frame = filter (concerns setup.name) (map (frame_of setup) more) in
    ap (λ (b : Bool). cond b (frame_of setup coming ∷ rest) rest) (concerned setup.name setup coming ∙ self_bytes setup.name)
    ∙ ap (λ (frames : List Frame). frame_of setup coming ∷ frames) (all_concern setup more)

-- none concerns another channel
pub none_concerns : (q : List ℕ) (setup : Setup) (comings : List Coming) → bytes_eq q setup.name ≡ false
    → filter (concerns q) (map (frame_of setup) comings) ≡ []
none_concerns q setup [] apart = refl
none_concerns q setup (coming ∷ more) apart =
    let rest : List Frame = filter (concerns q) (map (frame_of setup) more) in
    ap (λ (b : Bool). cond b (frame_of setup coming ∷ rest) rest) (concerned q setup coming ∙ apart) ∙ none_concerns q setup more apart
