-- The end pages are sent once, after all others.
use Rattle.std.proofs.Common.{◌≡◌, List, [], ◌∷◌, ◌++◌, refl, sym, ◌∙◌, ap, true, false, arith}
use Rattle.std.specs.Prelude.{Bool, ◌&&◌, ◌||◌, not, nat_le, if◌then◌else◌}
use Rattle.std.proofs.lemmas.List.{append-nil}
use Rattle.rl_events.specs.declared.channel.ChannelReply.{ChannelReply}
use Rattle.rl_events.specs.declared.channel.ChannelReply.TheVariants.{Put, Joined, Read, Members, Objects, Gone, Ticked, Census}
use Rattle.rl_types.specs.declared.frames.Frame.{Frame}
use Rattle.rl_pages.specs.State.{Sequences, page_absorbed, is_complete, end_frames, end_pages}
use Rattle.rl_pages.specs.History.{Asked, Step, Absorbs, Ends, begun, have_ended, all_there, after, ends_sent, EndsOnce, EndsForGood}
use Rattle.rl_pages.proofs.Stands.{stands}

-- ONCE

pub once_more : (presence objects over there : Bool) (members others : List Frame)
    → ((if over then ((if presence then members else []) ++ (if objects then others else [])) else [])
    ++ (if (not (not (presence || objects) || over) && there) then ((if presence then members else []) ++ (if objects then others else [])) else []))
    ≡ (if (over || there) then ((if presence then members else []) ++ (if objects then others else [])) else [])
once_more true true true there members others = append-nil (members ++ others)
once_more true false true there members others = append-nil (members ++ [])
once_more false true true there members others = append-nil others
once_more false false true there members others = refl
once_more true objects false true members others = refl
once_more false true false true members others = refl
once_more false false false true members others = refl
once_more true objects false false members others = refl
once_more false true false false members others = refl
once_more false false false false members others = refl

pub once : (asked : Asked) (steps : List Step) → ends_sent asked steps ≡ (if have_ended asked steps then end_pages (begun asked) else [])
once asked [] = refl
once asked (Absorbs reply ∷ before) = once asked before
once asked (Ends ∷ before) =
    let sent = once asked before in
    let state = ap end_frames (stands asked before) in
    rw (sent, state) (once_more asked.presence asked.objects (have_ended asked before) (all_there asked before) _ _)

-- AFTER ALL OTHERS

-- what all pages say, by what is kept
pub there_is : (asked : Asked) (steps : List Step) → all_there asked steps ≡ ((after asked steps).members.done && (after asked steps).objects.done)
there_is asked steps = ap (λ (pages : Sequences). pages.members.done && pages.objects.done) (sym (stands asked steps))

both_stay : (members objects last : Bool) → (members && objects) ≡ true → ((members || last) && objects) ≡ true
both_stay true objects last is = is
both_stay false objects last is = grind (arith, is)

all_stay : (members objects last : Bool) → (members && objects) ≡ true → (members && (objects || last)) ≡ true
all_stay true true last is = refl
all_stay true false last is = grind (arith, is)
all_stay false objects last is = grind (arith, is)

stay : (reply : ChannelReply) (pages : Sequences) → (pages.members.done && pages.objects.done) ≡ true
    → ((page_absorbed reply pages).members.done && (page_absorbed reply pages).objects.done) ≡ true
stay (Members items last head) pages is = both_stay pages.members.done pages.objects.done last is
stay (Objects states last head) pages is = all_stay pages.members.done pages.objects.done last is
stay (Put verdict) pages is = is
stay (Joined serial resumed presence objects) pages is = is
stay (Read reply) pages is = is
stay (Gone place) pages is = is
stay Ticked pages is = is
stay (Census first head members objects) pages is = is

one_of_two : (over there : Bool) → (over ≡ true → there ≡ true) → (over || there) ≡ true → there ≡ true
one_of_two true there known is = known refl
one_of_two false there known is = is

pub complete : (asked : Asked) (steps : List Step) → have_ended asked steps ≡ true → all_there asked steps ≡ true
complete asked [] is = grind (arith, is)
complete asked (Absorbs reply ∷ before) is =
    there_is asked (Absorbs reply ∷ before) ∙ stay reply (after asked before) (sym (there_is asked before) ∙ complete asked before is)
complete asked (Ends ∷ before) is =
    there_is asked (Ends ∷ before) ∙ sym (there_is asked before) ∙ one_of_two (have_ended asked before) (all_there asked before) (complete asked before) is

pub ends_once : EndsOnce
ends_once = record { once = once; complete = complete }

-- FOR GOOD

first_holds : (a b : Bool) → (a && b) ≡ true → a ≡ true
first_holds true b is = refl
first_holds false b is = grind (arith, is)

over_is : (over there : Bool) → (not (over || (not over && there)) && there) ≡ false
over_is true there = refl
over_is false true = refl
over_is false false = refl

still_over : (over there : Bool) → ((over || (not over && there)) || (not (over || (not over && there)) && there)) ≡ (over || (not over && there))
still_over true there = refl
still_over false true = refl
still_over false false = refl

pub ends_for_good : EndsForGood
ends_for_good =
    record {
      sent = λ pages position may.
          let complete : is_complete pages ≡ true = first_holds (is_complete pages) (nat_le pages.members.head position && nat_le pages.objects.head position) may in
          rw complete refl;
      over = λ pages position. rw (over_is pages.ended (pages.members.done && pages.objects.done)) refl;
      none_more = λ pages. rw (over_is pages.ended (pages.members.done && pages.objects.done)) refl;
      stays = λ pages. ap (λ (b : Bool). record pages { ended = b }) (still_over pages.ended (pages.members.done && pages.objects.done));
    }
