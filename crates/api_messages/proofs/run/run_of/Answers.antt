use Rattle.std.proofs.Common.{rules}
use Rattle.std.proofs.lemmas.Int.{to_z-of_z}
use mir.Syntax.{w32, w64}
use mir.Val.{SFits}
use Rattle.std.proofs.lemmas.Result.{err_from_is_err_and}
use Rattle.api_messages.proofs.Rows.{later, here, next, done}
use Rattle.api_messages.proofs.run.run_of.Goals as goal

pub returns-in_err-broadcast_index : goal.returns-in_err-broadcast_index
returns-in_err-broadcast_index c =
    let p = err_from_is_err_and c.from_residual.result c.from_residual.ensures.1 in
    rw (p.1, p.2) (here _ _ _ _ _ c.in_err-broadcast_index.ensures)

pub returns-in_err-broadcast_total : goal.returns-in_err-broadcast_total
returns-in_err-broadcast_total c =
    let p = err_from_is_err_and c.from_residual-in_err-broadcast_total.result c.from_residual-in_err-broadcast_total.ensures.1 in
    rw (p.1, p.2) (later _ _ _ _ _ _ c.in_ok-broadcast_index.ensures (here _ _ _ _ _ c.in_err-broadcast_total.ensures))

pub returns-in_err-executor_block_strategy : goal.returns-in_err-executor_block_strategy
returns-in_err-executor_block_strategy c =
    let p = err_from_is_err_and c.from_residual-in_err-executor_block_strategy.result c.from_residual-in_err-executor_block_strategy.ensures.1 in
    rw (p.1, p.2) (later _ _ _ _ _ _ c.in_ok-broadcast_index.ensures (later _ _ _ _ _ _ c.in_ok-broadcast_total.ensures (here _ _ _ _ _ c.in_err-executor_block_strategy.ensures)))

pub returns-in_err-executor_handler : goal.returns-in_err-executor_handler
returns-in_err-executor_handler c =
    let p = err_from_is_err_and c.from_residual-in_err-executor_handler.result c.from_residual-in_err-executor_handler.ensures.1 in
    rw (p.1, p.2) (later _ _ _ _ _ _ c.in_ok-broadcast_index.ensures (later _ _ _ _ _ _ c.in_ok-broadcast_total.ensures (later _ _ _ _ _ _ c.in_ok-executor_block_strategy.ensures (here _ _ _ _ _ c.in_err-executor_handler.ensures))))

pub returns-in_err-executor_params : goal.returns-in_err-executor_params
returns-in_err-executor_params c =
    let p = err_from_is_err_and c.from_residual-in_err-executor_params.result c.from_residual-in_err-executor_params.ensures.1 in
    rw (p.1, p.2) (later _ _ _ _ _ _ c.in_ok-broadcast_index.ensures (later _ _ _ _ _ _ c.in_ok-broadcast_total.ensures (later _ _ _ _ _ _ c.in_ok-executor_block_strategy.ensures (later _ _ _ _ _ _ c.in_ok-executor_handler.ensures (here _ _ _ _ _ c.in_err-executor_params.ensures)))))

pub returns-in_err-executor_timeout : goal.returns-in_err-executor_timeout
returns-in_err-executor_timeout c =
    let p = err_from_is_err_and c.from_residual-in_err-executor_timeout.result c.from_residual-in_err-executor_timeout.ensures.1 in
    rw (p.1, p.2) (later _ _ _ _ _ _ c.in_ok-broadcast_index.ensures (later _ _ _ _ _ _ c.in_ok-broadcast_total.ensures (later _ _ _ _ _ _ c.in_ok-executor_block_strategy.ensures (later _ _ _ _ _ _ c.in_ok-executor_handler.ensures (later _ _ _ _ _ _ c.in_ok-executor_params.ensures (here _ _ _ _ _ c.in_err-executor_timeout.ensures))))))

pub returns-in_err-glue_source : goal.returns-in_err-glue_source
returns-in_err-glue_source c =
    let p = err_from_is_err_and c.from_residual-in_err-glue_source.result c.from_residual-in_err-glue_source.ensures.1 in
    rw (p.1, p.2) (later _ _ _ _ _ _ c.in_ok-broadcast_index.ensures (later _ _ _ _ _ _ c.in_ok-broadcast_total.ensures (later _ _ _ _ _ _ c.in_ok-executor_block_strategy.ensures (later _ _ _ _ _ _ c.in_ok-executor_handler.ensures (later _ _ _ _ _ _ c.in_ok-executor_params.ensures (later _ _ _ _ _ _ c.in_ok-executor_timeout.ensures (here _ _ _ _ _ c.in_err-glue_source.ensures)))))))

pub returns-in_err-glue_type : goal.returns-in_err-glue_type
returns-in_err-glue_type c =
    let p = err_from_is_err_and c.from_residual-in_err-glue_type.result c.from_residual-in_err-glue_type.ensures.1 in
    rw (p.1, p.2) (later _ _ _ _ _ _ c.in_ok-broadcast_index.ensures (later _ _ _ _ _ _ c.in_ok-broadcast_total.ensures (later _ _ _ _ _ _ c.in_ok-executor_block_strategy.ensures (later _ _ _ _ _ _ c.in_ok-executor_handler.ensures (later _ _ _ _ _ _ c.in_ok-executor_params.ensures (later _ _ _ _ _ _ c.in_ok-executor_timeout.ensures (later _ _ _ _ _ _ c.in_ok-glue_source.ensures (here _ _ _ _ _ c.in_err-glue_type.ensures))))))))

pub returns-in_err-glue_updatetime : goal.returns-in_err-glue_updatetime
returns-in_err-glue_updatetime c =
    let p = err_from_is_err_and c.from_residual-in_err-glue_updatetime.result c.from_residual-in_err-glue_updatetime.ensures.1 in
    rw (p.1, p.2) (later _ _ _ _ _ _ c.in_ok-broadcast_index.ensures (later _ _ _ _ _ _ c.in_ok-broadcast_total.ensures (later _ _ _ _ _ _ c.in_ok-executor_block_strategy.ensures (later _ _ _ _ _ _ c.in_ok-executor_handler.ensures (later _ _ _ _ _ _ c.in_ok-executor_params.ensures (later _ _ _ _ _ _ c.in_ok-executor_timeout.ensures (later _ _ _ _ _ _ c.in_ok-glue_source.ensures (later _ _ _ _ _ _ c.in_ok-glue_type.ensures (here _ _ _ _ _ c.in_err-glue_updatetime.ensures.value)))))))))

pub returns-in_err-job_id : goal.returns-in_err-job_id
returns-in_err-job_id c =
    let p = err_from_is_err_and c.from_residual-in_err-job_id.result c.from_residual-in_err-job_id.ensures.1 in
    rw (p.1, p.2) (later _ _ _ _ _ _ c.in_ok-broadcast_index.ensures (later _ _ _ _ _ _ c.in_ok-broadcast_total.ensures (later _ _ _ _ _ _ c.in_ok-executor_block_strategy.ensures (later _ _ _ _ _ _ c.in_ok-executor_handler.ensures (later _ _ _ _ _ _ c.in_ok-executor_params.ensures (later _ _ _ _ _ _ c.in_ok-executor_timeout.ensures (later _ _ _ _ _ _ c.in_ok-glue_source.ensures (later _ _ _ _ _ _ c.in_ok-glue_type.ensures (later _ _ _ _ _ _ c.in_ok-glue_updatetime.ensures.value (here _ _ _ _ _ c.in_err-job_id.ensures))))))))))

pub returns-in_err-log_date_time : goal.returns-in_err-log_date_time
returns-in_err-log_date_time c =
    let p = err_from_is_err_and c.from_residual-in_err-log_date_time.result c.from_residual-in_err-log_date_time.ensures.1 in
    rw (p.1, p.2) (later _ _ _ _ _ _ c.in_ok-broadcast_index.ensures (later _ _ _ _ _ _ c.in_ok-broadcast_total.ensures (later _ _ _ _ _ _ c.in_ok-executor_block_strategy.ensures (later _ _ _ _ _ _ c.in_ok-executor_handler.ensures (later _ _ _ _ _ _ c.in_ok-executor_params.ensures (later _ _ _ _ _ _ c.in_ok-executor_timeout.ensures (later _ _ _ _ _ _ c.in_ok-glue_source.ensures (later _ _ _ _ _ _ c.in_ok-glue_type.ensures (later _ _ _ _ _ _ c.in_ok-glue_updatetime.ensures.value (later _ _ _ _ _ _ c.in_ok-job_id.ensures (here _ _ _ _ _ c.in_err-log_date_time.ensures.value)))))))))))

pub returns-in_err-log_id : goal.returns-in_err-log_id
returns-in_err-log_id c =
    let p = err_from_is_err_and c.from_residual-in_err-log_id.result c.from_residual-in_err-log_id.ensures.1 in
    rw (p.1, p.2) (later _ _ _ _ _ _ c.in_ok-broadcast_index.ensures (later _ _ _ _ _ _ c.in_ok-broadcast_total.ensures (later _ _ _ _ _ _ c.in_ok-executor_block_strategy.ensures (later _ _ _ _ _ _ c.in_ok-executor_handler.ensures (later _ _ _ _ _ _ c.in_ok-executor_params.ensures (later _ _ _ _ _ _ c.in_ok-executor_timeout.ensures (later _ _ _ _ _ _ c.in_ok-glue_source.ensures (later _ _ _ _ _ _ c.in_ok-glue_type.ensures (later _ _ _ _ _ _ c.in_ok-glue_updatetime.ensures.value (later _ _ _ _ _ _ c.in_ok-job_id.ensures (later _ _ _ _ _ _ c.in_ok-log_date_time.ensures.value (here _ _ _ _ _ c.in_err-log_id.ensures))))))))))))

pub returns : goal.returns
returns c =
    let executor_timeout : SFits w32 c.in_ok-executor_timeout.executor_timeout = search rules in
    let glue_updatetime : SFits w64 c.in_ok-glue_updatetime.glue_updatetime = search rules in
    let log_date_time : SFits w64 c.in_ok-log_date_time.log_date_time = search rules in
    simp (to_z-of_z) (next _ _ _ _ _ _ c.in_ok-broadcast_index.ensures (next _ _ _ _ _ _ c.in_ok-broadcast_total.ensures (next _ _ _ _ _ _ c.in_ok-executor_block_strategy.ensures (next _ _ _ _ _ _ c.in_ok-executor_handler.ensures (next _ _ _ _ _ _ c.in_ok-executor_params.ensures (next _ _ _ _ _ _ c.in_ok-executor_timeout.ensures (next _ _ _ _ _ _ c.in_ok-glue_source.ensures (next _ _ _ _ _ _ c.in_ok-glue_type.ensures (next _ _ _ _ _ _ c.in_ok-glue_updatetime.ensures.value (next _ _ _ _ _ _ c.in_ok-job_id.ensures (next _ _ _ _ _ _ c.in_ok-log_date_time.ensures.value (next _ _ _ _ _ _ c.in_ok-log_id.ensures (done _ _)))))))))))))
