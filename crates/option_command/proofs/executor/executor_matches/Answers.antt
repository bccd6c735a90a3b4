use Rattle.std.proofs.Common.{◌≡◌, ◌∙◌, true, sym, true≢false, map, string_bytes}
use Rattle.option_words.specs.Programs.{executor_app, executor_options}
use Rattle.option_words.proofs.Tables.{executor_free, executor_simple, executor_ready}
use Rattle.option_words.proofs.Ready.{plain_takes}
use Rattle.clap.specs.Words.{app_of, rows_of, found_of}
use Rattle.option_command.proofs.Texts.{matches_are, memory_free, memory_taken}
use Rattle.option_command.proofs.executor.executor_matches.Goals as goal

pub returns-in-Ok-try_get_matches_from-clause-reads : goal.returns-in-Ok-try_get_matches_from-clause-reads
returns-in-Ok-try_get_matches_from-clause-reads c =
    matches_are (app_of c.in-Ok.command) executor_app (map string_bytes c.args.words.now) (rows_of (found_of c.in-Ok-try_get_matches_from.matches))
    c.in-Ok.ensures executor_free executor_simple c.in-Ok-try_get_matches_from.ensures.kinds (λ s. (c.in-Ok-try_get_matches_from.ensures.matches s).0)

pub returns-clause-reads : goal.returns-clause-reads
returns-clause-reads c = λ none.
    (let memory = memory_free (app_of c.in-Ok.command) executor_app (map string_bytes c.args.words.now) c.in-Err.error c.in-Ok.ensures executor_free c.in-Err.ensures.kinds none in
    let same : c.eq.result ≡ true = rw (c.kind.ensures ∙ memory) at c.eq.ensures in
    absurd (true≢false (sym same ∙ c.if-eq.false)))

pub returns-clause-plain : goal.returns-clause-plain
returns-clause-plain c = λ uses plain.
    (let memory = memory_taken (app_of c.in-Ok.command) executor_app (map string_bytes c.args.words.now) c.in-Err.error c.in-Ok.ensures c.in-Err.ensures.passes
    (plain_takes executor_app executor_options executor_ready uses (map string_bytes c.args.words.now) plain) in
    let same : c.eq.result ≡ true = rw (c.kind.ensures ∙ memory) at c.eq.ensures in
    absurd (true≢false (sym same ∙ c.if-eq.false)))
