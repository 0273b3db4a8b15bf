use Rattle.std.proofs.Common.{◌≡◌, [], ◌++◌, ap, ◌∙◌}
use Rattle.json.specs.Print.{print}
use Rattle.rl_wire.specs.Tokens.{Adds, front_tokens, list_tokens, back_tokens}
use Rattle.rl_wire.proofs.Direct.{then, frame_printed}
use Rattle.rl_wire.proofs.messages.message_bytes.Goals as goal

pub returns-clause-text : goal.returns-clause-text
returns-clause-text c =
    let h = c.args.head.now in
    let out = c.put_back.new.out in
    let all : Adds c.new-out.result out (front_tokens h ++ (list_tokens c.as_slice.result.now ++ back_tokens h)) = then c.in_ok-put_front.ensures (then c.in_ok-put_list.ensures c.in_ok-put_back.ensures) in
    let before : out.before ≡ [] = all.before ∙ c.new-out.ensures.before ∙ c.in_ok-with_capacity.ensures.items in
    let written : out.tokens ≡ front_tokens h ++ (list_tokens c.args.items.now ++ back_tokens h) =
    all.tokens ∙ ap (λ ts. ts ++ (front_tokens h ++ (list_tokens c.as_slice.result.now ++ back_tokens h))) c.new-out.ensures.tokens
    ∙ ap (λ ms. front_tokens h ++ (list_tokens ms ++ back_tokens h)) c.as_slice.ensures in
    c.into_inner.ensures.items ∙ ap (λ b. b ++ print out.tokens) before ∙ frame_printed h c.args.items.now out.tokens written
