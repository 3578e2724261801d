use Rattle.std.proofs.Common.{◌≡◌, ◌∙◌, ap, ap₂, true, codes}
use Rattle.clap.specs.Simple.{app_of, app_of_fields, new_app, on_top, with_rule}
use Rattle.tt_words.specs.inside.Program.{base, flag_rule, option_rule}
use Rattle.tt_words.proofs.command.command.Goals as goal

pub returns : goal.returns
returns c =
    let named : app_of c.no_binary_name.result ≡ on_top (λ s. record s { no_binary_name = true }) (new_app (codes "tclthread")) =
    ap app_of_fields c.no_binary_name.ensures ∙ ap (on_top (λ s. record s { no_binary_name = true })) c.new.ensures.app in
    let helpless : app_of c.disable_help_flag.result
    ≡ on_top (λ s. record s { no_binary_name = true; disable_help_flag = true }) (new_app (codes "tclthread")) =
    ap app_of_fields c.disable_help_flag.ensures ∙ ap (on_top (λ s. record s { disable_help_flag = true })) named in
    let none : app_of c.disable_version_flag.result ≡ base =
    ap app_of_fields c.disable_version_flag.ensures ∙ ap (on_top (λ s. record s { disable_version_flag = true })) helpless in
    let workers =
    c.in_ok-arg.ensures.shape c.option-workers.ensures.local ∙ ap₂ with_rule none (c.option-workers.ensures.rule ∙ ap option_rule c.name.ensures) in
    let steps = c.in_ok-arg-2.ensures.shape c.option-steps.ensures.local
    ∙ ap₂ with_rule workers (c.option-steps.ensures.rule ∙ ap option_rule c.name-2.ensures) in
    let limit = c.in_ok-arg-3.ensures.shape c.option-limit.ensures.local
    ∙ ap₂ with_rule steps (c.option-limit.ensures.rule ∙ ap option_rule c.name-3.ensures) in
    let kept = c.in_ok-arg-4.ensures.shape c.option-record.ensures.local
    ∙ ap₂ with_rule limit (c.option-record.ensures.rule ∙ ap option_rule c.name-4.ensures) in
    let replay =
    c.in_ok-arg-5.ensures.shape c.option-replay.ensures.local ∙ ap₂ with_rule kept (c.option-replay.ensures.rule ∙ ap option_rule c.name-5.ensures) in
    let generate =
    c.in_ok-arg-6.ensures.shape c.option-generate.ensures.local
    ∙ ap₂ with_rule replay (c.option-generate.ensures.rule ∙ ap option_rule c.name-6.ensures) in
    let waits = c.in_ok-arg-7.ensures.shape c.flag-waits.ensures.local
    ∙ ap₂ with_rule generate (c.flag-waits.ensures.rule ∙ ap flag_rule c.name-7.ensures) in
    let races = c.in_ok-arg-8.ensures.shape c.flag-races.ensures.local
    ∙ ap₂ with_rule waits (c.flag-races.ensures.rule ∙ ap flag_rule c.name-8.ensures) in
    let debug = c.in_ok-arg-9.ensures.shape c.option-debug.ensures.local
    ∙ ap₂ with_rule races (c.option-debug.ensures.rule ∙ ap option_rule c.name-9.ensures) in
    c.in_ok-command.ensures.shape c.words-words.ensures.local ∙ ap₂ with_rule debug c.words-words.ensures.rule
