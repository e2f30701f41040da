pub mod CaseViews
